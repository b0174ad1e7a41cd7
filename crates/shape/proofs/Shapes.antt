-- Well-shaped records: each answer of the code is the same test of `specs/Shape`. Assumes nothing.
use mathlib.Core.Path.{◌≡◌, refl, sym, ◌∙◌}
use native.Mathlib.Nat.{add-zero}
use mathlib.Core.Bool.{Bool, beq, true, false, ◌&&◌, true≢false, and_assoc, and-true}
use Prim.Native.Nat.{ℕ, zero, suc, ◌+◌, ◌<◌, ◌≤◌, ◌^◌}
use native.Mathlib.Omega.{arith}
use native.Mathlib.Numerals.{add-one}
use lib.Dec.{leb, ltb}
use lib.ListN.{length, get_or, take}
use lib.Seq.{length-take-le, get_or-take}
use mir.Syntax.{w32}
use mir.Val.{Fits}
use Rattle.std.specs.Prelude.{MatchBool}
use Rattle.std.specs.List.{IsAllAdjacentAnswer, list_all, range_with_len}
use Rattle.records.proofs.ContentShaped.{all_of}
use borrow.Author.Tests.{le-leb, lt-leb, ne_eqb}
use Rattle.answer.specs.Answer.{pick}
use Rattle.schema.specs.Table.{Kind, set, number32, number64, null, octets, root, rows, row_at, known_version, held_in, level_top, hashed, top32, top64, row_count}
use Rattle.schema.specs.Rows.{of_kind, of_row}
use Rattle.schema.specs.declared.Row.{Row}
use Rattle.schema.specs.declared.Kind as code
use Rattle.records.specs.declared.NumberSet.{NumberSet}
use Rattle.records.specs.declared.RootOfTrust.{RootOfTrust}
use Rattle.records.specs.declared.FieldList.{FieldList}
use Rattle.records.specs.declared.Record.{Record}
use Rattle.records.specs.Content.{set_of, set_at}
use Rattle.records.specs.Rows.{all_below}
use Rattle.shape.specs.Plain.{plain_shaped, row_plain}
use Rattle.records.specs.Shape.{member_shaped, same, set_shaped, root_shaped, value_shaped, row_shaped, list_shaped, head_shaped, well_shaped_record}
use Rattle.records.proofs.Rowwise.{all_fails, all_agree}
use Rattle.records.proofs.Placed.{by_set, by_root}

-- ---- tests one after the other

-- a test is made where those before it, x, passed; y is what it gives and v what is known then
pub next_true : {x y a b v : Bool} → x ≡ a → x ≡ true → v ≡ y → y ≡ b → v ≡ a && b
next_true e t q f = q ∙ (f ∙ rw (← e, t) refl)

pub next_false : {x a v : Bool} (b : Bool) → x ≡ a → x ≡ false → v ≡ x → v ≡ a && b
next_false b e t q = q ∙ rw (← e, t) refl

-- a test of each row in turn is the test of all
range_all : (f : ℕ → Bool) (n a : ℕ) → all_below f a && list_all f (range_with_len a n) ≡ all_below f (a + n)
unfolding all_below
range_all f zero a = rw add-zero (and-true (all_below f a))
range_all f (suc n) a =
    let e : suc a + n ≡ a + suc n = omega arith in
    sym (and_assoc (all_below f a) (f a) (list_all f (range_with_len (a + 1) n))) ∙ rw (add-one a) (range_all f n (suc a) ∙ rw e refl)

pub rows_all : (f : ℕ → Bool) {r : Bool} → r ≡ list_all f (range_with_len 0 42) → r ≡ all_below f row_count
unfolding all_below
rows_all f e = e ∙ range_all f 42 0

-- what is asked where a flag is set
pub asked_where : (b x r : Bool) {P : Type 0} → MatchBool b P (r ≡ true) → (P → r ≡ x) → r ≡ pick b x true
unfolding pick
asked_where true x r e f = f e
asked_where false x r e f = e

-- ---- versions and levels

pub head_whole : (v a k b top : ℕ) → top ≡ level_top v → k < 2 ^ 32 → known_version v && leb a top && leb b top ≡ head_shaped v a k b
unfolding head_shaped
head_whole v a k b top f h = rw (f, le-leb k top32 (omega arith)) (and_assoc (known_version v) (leb a (level_top v)) (leb b (level_top v)))

-- ---- sets

pub too_many : (g : NumberSet) → 16 < g.count → false ≡ set_shaped g
unfolding set_shaped
too_many g h = rw (lt-leb g.count 16 h) refl

and_false : (a : Bool) → a && false ≡ false
and_false true = refl
and_false false = refl

-- members as the code has them ascend where each is below the next
module _ (g : NumberSet) (h : g.count ≤ 16) (z : length g.members ≡ 16) (f : (k : ℕ) → Fits w32 (get_or g.members k 0)) where
  narrow : (k : ℕ) → leb (get_or g.members k 0) top32 ≡ true
  narrow k = let q : Fits w32 (get_or g.members k 0) = f k in le-leb (get_or g.members k 0) top32 (omega (arith, q))

  below : length (take g.count g.members) ≡ g.count
  below = length-take-le g.count g.members (omega arith)

  pub ascending : (b : Bool) → IsAllAdjacentAnswer (λ x y r. r ≡ ltb x y) (take g.count g.members) b → b ≡ set_shaped g
  unfolding set_shaped
  ascending true e = rw (le-leb g.count 16 h) (sym (all_of (member_shaped g.members) g.count each))
    where
      each : (k : ℕ) → k < g.count → member_shaped g.members k ≡ true
      each zero q = narrow zero
      each (suc i) q =
          rw (narrow (suc i), ← get_or-take g.count g.members i 0 (omega arith), ← get_or-take g.count g.members (suc i) 0 q)
          (sym (rw add-one at (e i 0 (omega (arith, below)))))
  ascending false (k, q, e) =
      let q1 : k + 1 < g.count = omega (arith, below) in
      let bad : ltb (get_or g.members k 0) (get_or g.members (suc k) 0) ≡ false =
      rw (← get_or-take g.count g.members k 0 (omega arith), ← get_or-take g.count g.members (suc k) 0 (omega arith)) (sym (rw add-one at (e 0))) in
      rw (le-leb g.count 16 h) (all_fails (member_shaped g.members) g.count (suc k) (omega arith) (rw bad (and_false (leb (get_or g.members (suc k) 0) top32))))

-- ---- RootOfTrust

beq_same : (b d : Bool) → beq b d ≡ same b d
beq_same true true = refl
beq_same true false = refl
beq_same false true = refl
beq_same false false = refl

module _ (v : ℕ) (t : RootOfTrust) where
  pub state_over : 3 < t.state → leb t.state 3 ≡ root_shaped v t
  unfolding root_shaped
  state_over h = rw (lt-leb t.state 3 h) refl

  pub state_within : t.state ≤ 3 → beq t.hashed (leb 3 v) ≡ root_shaped v t
  unfolding root_shaped hashed
  state_within h = rw (le-leb t.state 3 h) (beq_same t.hashed (leb 3 v))

-- ---- a row of a list

-- the set of a number
module _ (n : ℕ) (purpose digest padding mgf : NumberSet) where
  pub set-purpose : n ≡ 1 → purpose ≡ set_of n purpose digest padding mgf
  unfolding pick
  set-purpose e = rw e refl

  pub set-digest : n ≡ 5 → digest ≡ set_of n purpose digest padding mgf
  unfolding pick
  set-digest e = rw e refl

  pub set-padding : n ≡ 6 → padding ≡ set_of n purpose digest padding mgf
  unfolding pick
  set-padding e = rw e refl

  pub set-mgf : (n ≡ 1 → ⊥) → (n ≡ 5 → ⊥) → (n ≡ 6 → ⊥) → mgf ≡ set_of n purpose digest padding mgf
  unfolding pick
  set-mgf a b d = rw (ne_eqb n 1 a, ne_eqb n 5 b, ne_eqb n 6 d) refl

-- a number, by its kind
other_plain : (q : code.Kind) (n : ℕ) → (q ≡ code.Kind.Number32 → ⊥) → (q ≡ code.Kind.Number64 → ⊥) → true ≡ plain_shaped (of_kind q) n
unfolding plain_shaped
other_plain code.Kind.Set n a b = refl
other_plain code.Kind.Number32 n a b = absurd (a refl)
other_plain code.Kind.Number64 n a b = absurd (b refl)
other_plain code.Kind.Null n a b = refl
other_plain code.Kind.Octets n a b = refl
other_plain code.Kind.Root n a b = refl

module _ (q : code.Kind) (n : ℕ) where
  pub plain_number32 : q ≡ code.Kind.Number32 → leb n top32 ≡ plain_shaped (of_kind q) n
  unfolding plain_shaped
  plain_number32 e = rw e refl

  pub plain_number64 : q ≡ code.Kind.Number64 → leb n top64 ≡ plain_shaped (of_kind q) n
  unfolding plain_shaped
  plain_number64 e = rw e refl

  pub plain_other : (q ≡ code.Kind.Number32 → ⊥) → (q ≡ code.Kind.Number64 → ⊥) → true ≡ plain_shaped (of_kind q) n
  plain_other a b = other_plain q n a b

-- ---- the rows of a list

module _ (v : ℕ) (l : FieldList) (k : ℕ) where
  pub row-absent : get_or l.present k false ≡ false → true ≡ row_plain v l k
  unfolding row_plain pick
  row-absent n = rw n refl

  pub row-there : get_or l.present k false ≡ true → (r : Row) → of_row r ≡ row_at k → held_in v (of_row r) && plain_shaped (of_kind r.kind) (get_or l.values k 0) ≡ row_plain v l k
  unfolding row_plain pick
  row-there n r f = rw (n, ← f) refl

-- ---- a list: its sets and 704, and its rows

-- a row whose own place is ill-shaped
apart_bad : (b held x : Bool) → pick b x true ≡ false → pick b (held && x) true ≡ false
unfolding pick
apart_bad true held x e = rw e (and_false held)
apart_bad false held x e = absurd (true≢false e)

-- a row whose own place is well-shaped
apart_good : (b held x : Bool) → pick b x true ≡ true → pick b (held && true) true ≡ pick b (held && x) true
unfolding pick
apart_good true held x e = rw e refl
apart_good false held x e = refl

module _ (v : ℕ) (l : FieldList) where
  -- a row whose own place x is ill-shaped
  own_bad : (k : ℕ) (x : Bool) → k < row_count → value_shaped v (row_at k).kind (get_or l.values k 0) (set_at l (row_at k).number) l.root ≡ x → pick (get_or l.present k false) x true ≡ false → false ≡ list_shaped v l
  unfolding list_shaped row_shaped
  own_bad k x h e n = all_fails (row_shaped v l) row_count k h (rw e (apart_bad (get_or l.present k false) (held_in v (row_at k)) x n))

  -- what is asked of the places that are apart
  abbrev pub purpose-shaped : Bool
  purpose-shaped = pick (get_or l.present 0 false) (set_shaped l.purpose) true

  abbrev pub digest-shaped : Bool
  digest-shaped = pick (get_or l.present 3 false) (set_shaped l.digest) true

  abbrev pub padding-shaped : Bool
  padding-shaped = pick (get_or l.present 4 false) (set_shaped l.padding) true

  abbrev pub mgf-shaped : Bool
  mgf-shaped = pick (get_or l.present 7 false) (set_shaped l.mgf) true

  abbrev pub trust-shaped : Bool
  trust-shaped = pick (get_or l.present 26 false) (root_shaped v l.root) true

  module _ (ea : purpose-shaped ≡ true) (eb : digest-shaped ≡ true) (ed : padding-shaped ≡ true) (ef : mgf-shaped ≡ true) (eg : trust-shaped ≡ true) where
    apart : (k : ℕ) (j : Kind) → k < row_count → (row_at k).kind ≡ j
        → pick (get_or l.present k false) (held_in v (row_at k) && plain_shaped j (get_or l.values k 0)) true ≡ pick (get_or l.present k false) (held_in v (row_at k) && value_shaped v j (get_or l.values k 0) (set_at l (row_at k).number) l.root) true
    unfolding plain_shaped value_shaped rows pick
    apart k number32 h q = refl
    apart k number64 h q = refl
    apart k null h q = refl
    apart k octets h q = refl
    apart k set h q =
        by_set k h q
        (λ (u : k ≡ 0). rw u (apart_good (get_or l.present 0 false) (held_in v (row_at 0)) (set_shaped l.purpose) ea))
        (λ (u : k ≡ 3). rw u (apart_good (get_or l.present 3 false) (held_in v (row_at 3)) (set_shaped l.digest) eb))
        (λ (u : k ≡ 4). rw u (apart_good (get_or l.present 4 false) (held_in v (row_at 4)) (set_shaped l.padding) ed))
        (λ (u : k ≡ 7). rw u (apart_good (get_or l.present 7 false) (held_in v (row_at 7)) (set_shaped l.mgf) ef))
    apart k root h q = rw (by_root k h q) (apart_good (get_or l.present 26 false) (held_in v (row_at 26)) (root_shaped v l.root) eg)

    list_by_rows : all_below (row_plain v l) row_count ≡ list_shaped v l
    unfolding list_shaped row_plain row_shaped
    list_by_rows = all_agree (row_plain v l) (row_shaped v l) row_count (λ k h. apart k (row_at k).kind h refl)

  pub list_whole : purpose-shaped && digest-shaped && padding-shaped && mgf-shaped && trust-shaped && all_below (row_plain v l) row_count ≡ list_shaped v l
  unfolding rows value_shaped pick
  list_whole = go purpose-shaped digest-shaped padding-shaped mgf-shaped trust-shaped refl refl refl refl refl
    where
      go : (a b d f g : Bool) → purpose-shaped ≡ a → digest-shaped ≡ b → padding-shaped ≡ d → mgf-shaped ≡ f → trust-shaped ≡ g
          → a && b && d && f && g && all_below (row_plain v l) row_count ≡ list_shaped v l
      go false b d f g ea eb ed ef eg = own_bad 0 (set_shaped l.purpose) (omega arith) refl ea
      go true false d f g ea eb ed ef eg = own_bad 3 (set_shaped l.digest) (omega arith) refl eb
      go true true false f g ea eb ed ef eg = own_bad 4 (set_shaped l.padding) (omega arith) refl ed
      go true true true false g ea eb ed ef eg = own_bad 7 (set_shaped l.mgf) (omega arith) refl ef
      go true true true true false ea eb ed ef eg = own_bad 26 (root_shaped v l.root) (omega arith) refl eg
      go true true true true true ea eb ed ef eg = list_by_rows ea eb ed ef eg

pub record_whole : (r : Record) → head_shaped r.attestation.version r.attestation.level r.keymint.version r.keymint.level && list_shaped r.attestation.version r.software && list_shaped r.attestation.version r.hardware ≡ well_shaped_record r
unfolding well_shaped_record
record_whole r = and_assoc (head_shaped r.attestation.version r.attestation.level r.keymint.version r.keymint.level) (list_shaped r.attestation.version r.software) (list_shaped r.attestation.version r.hardware)
