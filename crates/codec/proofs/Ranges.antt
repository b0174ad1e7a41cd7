-- Which refusals a reader can give over elements that the first pass took: every header is then in order, so that only the
-- reader's own numbers are left, and a chain never runs out of turns. One law a combinator. Assumes nothing.
use mathlib.Core.Path.{◌≡◌, refl, sym, ap, ◌∙◌}
use mathlib.Core.Bool.{Bool, ◌&&◌}
use mathlib.Core.List.{List, [], ◌∷◌, ◌++◌, append-nil}
use Prim.Native.Nat.{ℕ, zero, suc, ◌+◌, ◌<◌, ◌≤◌}
use native.Mathlib.Omega.{arith}
use lib.Dec.{T, eqb, lt→ltb, ltb→lt, eqb→eq}
use lib.ListN.{length, length-append}
use lib.Seq.{take-append_seam, drop-append_seam}
use Rattle.answer.specs.Answer.{Answer, got, refused, guard, bind}
use Rattle.answer.proofs.Logic.{and_left}
use Rattle.answer.proofs.Answer.{got_inj, refused-got, bind-got, bind_case, bind-refuses, guard_yes, guard_case, guard-refuses}
use Rattle.codec.specs.Octets.{Taken, taken}
use Rattle.codec.specs.Header.{Identifier, holds, header, read_header, header_octets, element_octets}
use Rattle.codec.specs.Element.{element, tagged, exactly, both, chain_fuel, chain, under}
use Rattle.codec.specs.Tree.{Node, Nodes, node, none, and, octets_of, run_octets, Each, Der}
use Rattle.codec.proofs.Element.{element-header, element-long}

-- octets that are elements one after the other, each in DER
pub record Run (bs : List ℕ) : Type 0 where
  pub depth : ℕ
  pub start : ℕ
  pub elements : Nodes
  pub der : Each (Der depth) start elements
  pub whole : run_octets elements ≡ bs

-- what a run begins with: an element, whose content is a run where it holds elements, and a run after it
pub record First (bs : List ℕ) : Type 0 where
  pub id : Identifier
  pub content : List ℕ
  pub rest : List ℕ
  pub reads : (p : ℕ) → read_header p bs ≡ got (taken (header id (length content)) (p + length (header_octets id (length content))) (content ++ rest))
  pub inner : T (holds id) → Run content
  pub after : Run rest
  pub shorter : length rest < length bs

first_of : (d p : ℕ) (t : Node) (ts : Nodes) → Der d p t → Each (Der d) (p + length (octets_of t)) ts → First (octets_of t ++ run_octets ts)
unfolding Der octets_of
first_of zero p t ts e r = absurd e
first_of (suc d) p (node q i c ns) ts e r = record {
  id = i;
  content = c;
  rest = run_octets ts;
  reads = λ x. element-header x i c (run_octets ts) e.1 e.2;
  inner = λ h. record { depth = d; start = p + length (header_octets i (length c)); elements = ns; der = (e.3 h).1; whole = (e.3 h).0 };
  after = record { depth = suc d; start = p + length (element_octets i c); elements = ts; der = r; whole = refl };
  shorter = omega (arith, length-append (element_octets i c) (run_octets ts), element-long i c);
}

no_more : run_octets none ≡ []
unfolding run_octets
no_more = refl

nothing : (d x : ℕ) (t : Node) → Each (Der d) (x + length (octets_of t)) none
unfolding Each
nothing d x t = tt

rest-none : (d x : ℕ) (t : Node) (der : Der d x t) → (first_of d x t none der (nothing d x t)).rest ≡ []
unfolding first_of Der
rest-none zero x t der = absurd der
rest-none (suc d) x (node q i c ns) der = no_more

run-first : (d p : ℕ) (ts : Nodes) (bs : List ℕ) → Each (Der d) p ts → run_octets ts ≡ bs → 0 < length bs → First bs
unfolding Each run_octets
run-first d p none bs e w h = absurd (omega (arith, ap length w))
run-first d p (and t ts) bs e w h = rw w at (first_of d p t ts e.0 e.1)

pub first : (bs : List ℕ) → Run bs → 0 < length bs → First bs
first bs r h = run-first r.depth r.start r.elements bs r.der r.whole h

same-holds : (j i : Identifier) → T (eqb j.form i.form && eqb j.number i.number) → T (holds i) → T (holds j)
unfolding holds
same-holds j i t y = rw (eqb→eq j.form i.form (and_left (eqb j.form i.form) _ t)) y

-- ---- refusals within a range

module _ (low high : ℕ) where
  abbrev pub InRange : ℕ → Type 0
  InRange k = (low ≤ k) × (k ≤ high)

  pub record Ranged {A : Type 0} (rd : ℕ → List ℕ → Answer (Taken A)) : Type 0 where
    pub refuses : (p : ℕ) (bs : List ℕ) → Run bs → (k q : ℕ) → rd p bs ≡ refused k q → InRange k
    pub onward : (p : ℕ) (bs : List ℕ) → Run bs → (w : Taken A) → rd p bs ≡ got w → Run w.rest × (length w.rest ≤ length bs)

  -- it takes an octet at least
  abbrev pub Shortens : {A : Type 0} → (ℕ → List ℕ → Answer (Taken A)) → Type 0
  Shortens {A} rd = (p : ℕ) (bs : List ℕ) → Run bs → (w : Taken A) → rd p bs ≡ got w → length w.rest < length bs

  -- a reader of a whole content, which is a run where its element holds elements
  abbrev pub RangedIn : {A : Type 0} → Bool → (ℕ → ℕ → List ℕ → Answer A) → Type 0
  RangedIn holder dec = (p q : ℕ) (bs : List ℕ) → (T holder → Run bs) → (k r : ℕ) → dec p q bs ≡ refused k r → InRange k

  -- ---- an element

  module _ {A : Type 0} (missing : ℕ) (dec : Identifier → ℕ → ℕ → List ℕ → Answer A) (n : InRange missing) (inner : (i : Identifier) → RangedIn (holds i) (dec i)) where
    -- what an element of a run is read as
    opened : (p : ℕ) (bs : List ℕ) → 0 < length bs → (f : First bs)
        → element missing dec p bs ≡ bind (dec f.id p (p + length (header_octets f.id (length f.content))) f.content) (λ a. got (taken a (p + length (header_octets f.id (length f.content)) + length f.content) f.rest))
    unfolding element
    opened p bs h f = guard_yes _ _ _ _ (lt→ltb 0 (length bs) h) ∙ bind-got _ _ _ (f.reads p) ∙ rw (take-append_seam, drop-append_seam) refl

    element-refuses : (p : ℕ) (bs : List ℕ) → Run bs → (k q : ℕ) → element missing dec p bs ≡ refused k q → InRange k
    unfolding element
    element-refuses p bs r k q e =
        guard-refuses _ _ _ _ e (λ s. rw (← s) n)
        (λ t u.
        let h = ltb→lt 0 (length bs) t in
        let f = first bs r h in
        bind-refuses _ _ (sym (opened p bs h f) ∙ e) (λ d. inner f.id p _ f.content f.inner k q d) (λ a d v. absurd (refused-got (sym v))))

    element_onward : (p : ℕ) (bs : List ℕ) → Run bs → (w : Taken A) → element missing dec p bs ≡ got w → Run w.rest × (length w.rest < length bs)
    unfolding element
    element_onward p bs r w e =
        guard_case _ _ _ _ e λ t u.
        let h = ltb→lt 0 (length bs) t in
        let f = first bs r h in
        bind_case _ _ (sym (opened p bs h f) ∙ e) λ a d v.
        rw (← got_inj v) (f.after, f.shorter)

    -- after the only element of a run nothing is left
    pub element_alone : (p d x : ℕ) (t : Node) → Der d x t → (w : Taken A) → element missing dec p (octets_of t) ≡ got w → w.rest ≡ []
    unfolding element
    element_alone p d x t der w e =
        let f : First (octets_of t ++ run_octets none) = first_of d x t none der (nothing d x t) in
        let g : element missing dec p (octets_of t ++ run_octets none) ≡ got w = rw (no_more, append-nil) e in
        guard_case _ _ _ _ g λ y u.
        bind_case _ _ (sym (opened p (octets_of t ++ run_octets none) (ltb→lt 0 _ y) f) ∙ g) λ a v z.
        rw (← got_inj z) (rest-none d x t der)

    pub element_ranged : Ranged (element missing dec)
    element_ranged = record { refuses = element-refuses; onward = λ p bs r w e. let o = element_onward p bs r w e in (o.0, omega (arith, o.1)) }

    pub element_shortens : Shortens (element missing dec)
    element_shortens p bs r w e = (element_onward p bs r w e).1

  module _ {A : Type 0} (wrong : ℕ) (i : Identifier) (dec : ℕ → ℕ → List ℕ → Answer A) (n : InRange wrong) (inner : RangedIn (holds i) dec) where
    pub held : (j : Identifier) → RangedIn (holds j) (λ p q bs. guard (eqb j.form i.form && eqb j.number i.number) wrong p (dec p q bs))
    held j p q bs h k r e = guard-refuses _ _ _ _ e (λ s. rw (← s) n) (λ t u. inner p q bs (λ y. h (same-holds j i t y)) k r u)

    pub tagged_ranged : Ranged (tagged wrong i dec)
    unfolding tagged
    tagged_ranged = element_ranged wrong _ n held

    pub tagged_shortens : Shortens (tagged wrong i dec)
    unfolding tagged
    tagged_shortens = element_shortens wrong _ n held

  -- ---- exactly one, one and then another, under a constructor

  module _ {A : Type 0} (holder : Bool) (is : T holder) (extra : ℕ) (rd : ℕ → List ℕ → Answer (Taken A)) (n : InRange extra) (laws : Ranged rd) where
    pub exactly_ranged : RangedIn holder (λ p q bs. exactly extra rd q bs)
    unfolding exactly
    exactly_ranged p q bs h k r e = bind-refuses _ _ e (λ d. laws.refuses q bs (h is) k r d) (λ w d u. guard-refuses _ _ _ _ u (λ s. rw (← s) n) (λ t v. absurd (refused-got (sym v))))

  module _ {A B : Type 0} (rd : ℕ → List ℕ → Answer (Taken A)) (next : A → ℕ → List ℕ → Answer (Taken B)) (laws : Ranged rd) (then : (a : A) → Ranged (next a)) where
    pub both_ranged : Ranged (both rd next)
    unfolding both
    both_ranged = record {
      refuses = λ p bs r k q e.
          bind-refuses _ _ e (λ d. laws.refuses p bs r k q d)
          (λ a d u. bind-refuses _ _ u (λ v. (then a.val).refuses a.next a.rest (laws.onward p bs r a d).0 k q v) (λ b v x. absurd (refused-got (sym x))));
      onward = λ p bs r w e.
          bind_case _ _ e λ a d u.
          bind_case _ _ u λ b v x.
          let m = laws.onward p bs r a d in
          let o = (then a.val).onward a.next a.rest m.0 b v in
          rw (← got_inj x) (o.0, omega (arith, m.1, o.1));
    }

  module _ {A B : Type 0} (holder : Bool) (inj : A → B) (dec : ℕ → ℕ → List ℕ → Answer A) (laws : RangedIn holder dec) where
    pub under_ranged : RangedIn holder (under inj dec)
    unfolding under
    under_ranged p q bs h k r e = bind-refuses _ _ e (λ d. laws p q bs h k r d) (λ a d u. absurd (refused-got (sym u)))

  -- ---- one after the other: as many turns as octets are enough

  module _ {S A : Type 0} (rd : S → ℕ → List ℕ → Answer (Taken A)) (after : S → A → S) (laws : (s : S) → Ranged (rd s)) (less : (s : S) → Shortens (rd s)) where
    turns : (f : ℕ) (s : S) (p : ℕ) (bs : List ℕ) → length bs ≤ f → Run bs → (k q : ℕ) → chain_fuel rd after f s p bs ≡ refused k q → InRange k
    unfolding chain_fuel
    turns zero s p [] l r k q e = absurd (refused-got (sym e))
    turns zero s p (x ∷ xs) l r k q e = absurd (omega arith)
    turns (suc f) s p [] l r k q e = absurd (refused-got (sym e))
    turns (suc f) s p (x ∷ xs) l r k q e =
        bind-refuses _ _ e (λ d. (laws s).refuses p (x ∷ xs) r k q d)
        (λ w d u.
        let m = (laws s).onward p (x ∷ xs) r w d in
        bind-refuses _ _ u (λ v. turns f (after s w.val) w.next w.rest (omega (arith, less s p (x ∷ xs) r w d)) m.0 k q v) (λ ws v y. absurd (refused-got (sym y))))

    pub chain_ranged : (holder : Bool) → T holder → (s : S) → RangedIn holder (λ p q bs. chain rd after s q bs)
    unfolding chain
    chain_ranged holder is s p q bs h k r e = turns (length bs) s q bs (omega arith) (h is) k r e
