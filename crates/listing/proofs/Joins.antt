-- Text put after text is the joined text put, and text that fits is spliced in whole. The idea: `puts` goes octet by
-- octet, so it joins by induction on the first text. Assumes nothing.
use mathlib.Core.Path.{◌≡◌, refl, sym, ap, ◌∙◌}
use mathlib.Core.List.{List, [], ◌∷◌, ◌++◌}
use Prim.Native.Nat.{ℕ, suc, ◌+◌, ◌<◌, ◌≤◌}
use native.Mathlib.Omega.{arith}
use lib.ListN.{length, set, length-append, length-set}
use borrow.Author.Tests.{lt-ltb, le-ltb}
use borrow.Rule.Slice.Mut.{set_vals}
use Rattle.answer.specs.Answer.{pick}
use Rattle.codec.specs.Octets.{splice}
use Rattle.codec.proofs.Splice.{splice-nothing, splice_one, splice-splice}
use Rattle.listing.specs.declared.Text.{Text}
use Rattle.listing.specs.Put.{Output, output, put, puts, Puts}

puts-append : (o : Output) (xs ys : List ℕ) → puts o (xs ++ ys) ≡ puts (puts o xs) ys
unfolding puts
puts-append o [] ys = refl
puts-append o (x ∷ xs) ys = puts-append (put o x) xs ys

-- one text after the other
pub joined : {old mid new : Text} {t u : List ℕ} {m k : ℕ} → Puts old t m mid → Puts mid u k new → Puts old (t ++ u) (m + k) new
joined {old} {mid} {new} {t} {u} {m} {k} e f = record {
  same = f.same ∙ e.same;
  is = f.is ∙ rw e.is (sym (puts-append (output old.out.now old.at) t u));
  few = omega (arith, length-append t u, e.few, f.few);
}

-- the same text, with another bound
pub bounded : {old new : Text} {t : List ℕ} {m k : ℕ} → length t ≤ k → Puts old t m new → Puts old t k new
bounded l e = record { same = e.same; is = e.is; few = l }

-- the same text, with a larger bound
pub within : {old new : Text} {t : List ℕ} {m : ℕ} (k : ℕ) → m ≤ k → Puts old t m new → Puts old t k new
within k l e = bounded (omega (arith, e.few)) e

-- the same text, written in another way
pub same : {old new : Text} {t : List ℕ} {m : ℕ} (u : List ℕ) → t ≡ u → Puts old t m new → Puts old u m new
same u e h = rw (← e) h

pub nothing : (old : Text) → Puts old [] 0 old
unfolding puts
nothing old = record { same = refl; is = refl; few = omega arith }

-- one octet

pub stored : (old : Text) (b : ℕ) → old.at < length old.out.now → Puts old (b ∷ []) 1 (record { out = set_vals (set old.out.now old.at b) old.out; at = old.at + 1 })
unfolding put puts pick
stored old b h = record { same = refl; is = rw (lt-ltb old.at (length old.out.now) h) refl; few = omega arith }

pub past : (old : Text) (b : ℕ) → length old.out.now ≤ old.at → Puts old (b ∷ []) 1 old
unfolding put puts pick
past old b h = record { same = refl; is = rw (le-ltb old.at (length old.out.now) h) refl; few = omega arith }

-- ---- where the text fits

spliced : (text old : List ℕ) (p : ℕ) → p + length text ≤ length old → puts (output old p) text ≡ output (splice old p text) (p + length text)
unfolding put puts pick
spliced [] old p h = let e : p + 0 ≡ p = omega arith in rw (splice-nothing old p, e) refl
spliced (b ∷ bs) old p h =
    let l : p < length old = omega arith in
    let e : p + 1 + length bs ≡ p + suc (length bs) = omega arith in
    rw (lt-ltb p (length old) l)
    (spliced bs (set old p b) (p + 1) (simp length-set (omega arith))
    ∙ rw (← splice_one old p b l, splice-splice old p (b ∷ []) bs (omega arith), e) refl)

pub whole : {old new : Text} {text : List ℕ} {most : ℕ} → Puts old text most new → old.at + most ≤ length old.out.now
    → (new.out.now ≡ splice old.out.now old.at text) × (new.at ≡ old.at + length text)
whole {old} {new} {text} {most} e h =
    let s : output new.out.now new.at ≡ output (splice old.out.now old.at text) (old.at + length text) = e.is ∙ spliced text old.out.now old.at (omega (arith, e.few)) in
    (ap (λ (o : Output). o.octets) s, ap (λ (o : Output). o.place) s)
