-- The first pass gives a tree exactly when the bytes are that tree's DER within the limits (`first_pass_exactly`); so
-- the count is at most the limit, and one tree stands over accepted bytes. By induction on the depth. Assumes nothing.
use mathlib.Core.Path.{◌≡◌, refl, sym, ap, ◌∙◌}
use mathlib.Core.Bool.{true, not}
use mathlib.Core.List.{List, [], ◌∷◌, ◌++◌, append-nil}
use Prim.Native.Nat.{ℕ, zero, suc, ◌+◌, ◌<◌, ◌≤◌}
use native.Mathlib.Omega.{arith}
use native.Mathlib.Nat.{le_refl}
use lib.ListN.{length, take, drop, length-append, take-append-drop}
use lib.Seq.{take-append_seam, drop-append_seam, length-take-le}
use lib.Dec.{T, ltb→lt, lt→ltb, leb→le, le→leb}
use Rattle.answer.specs.Answer.{Answer, got, refused, bind, pick}
use Rattle.answer.proofs.Answer.{guard_yes, guard_case, bind-got, bind_case, pick_yes, pick_no, pick_case, got_inj, refused-got}
use Rattle.codec.specs.Octets.{Octets, Taken, taken}
use Rattle.codec.specs.Header.{Identifier, holds, Header, header_octets}
use Rattle.codec.specs.Element.{exactly}
use Rattle.codec.specs.Tree.{Node, Nodes, node, none, and, nodes, all_nodes, run, walk_element, first_pass, octets_of, run_octets, Each, Der, Within}
use Rattle.codec.specs.Statements.{FirstPassExactly, CountFew, RunEnough}
use Rattle.codec.proofs.Octets.{octets-left, octets_right, same_taken}
use Rattle.codec.proofs.Header.{Headed, header-sound, header-next}
use Rattle.codec.proofs.Element.{element-header, element-length, element-long, element-whole, no_octets}

-- ---- a run, one turn at a time

pub run_none : (one : ℕ → ℕ → List ℕ → Answer (Taken Node)) (f met p : ℕ) → run one f met p [] ≡ got none
unfolding run
run_none one zero met p = refl
run_none one (suc f) met p = refl

pub run_step : (one : ℕ → ℕ → List ℕ → Answer (Taken Node)) (f met p : ℕ) (bs : List ℕ) → 0 < length bs
    → run one (suc f) met p bs ≡ bind (one met p bs) (λ w. bind (run one f (met + nodes w.val) w.next w.rest) (λ ts. got (and w.val ts)))
unfolding run
run_step one f met p [] h = absurd (omega arith)
run_step one f met p (x ∷ xs) h = refl

pub node-long : (t : Node) → 0 < length (octets_of t)
unfolding octets_of
node-long (node p i c ns) = element-long i c

-- ---- what is accepted is DER

-- what an element that was read says: it is DER, its octets stood at the front, and the counts add up
pub record Walked (most depth met p : ℕ) (bs : List ℕ) (w : Taken Node) : Type 0 where
  pub der : Der depth p w.val
  pub whole : octets_of w.val ++ w.rest ≡ bs
  pub next : w.next ≡ p + length (octets_of w.val)
  pub few : met + nodes w.val ≤ most

module _ (most depth : ℕ) (sound : (met p : ℕ) (bs : List ℕ) (w : Taken Node) → Octets bs → walk_element most depth met p bs ≡ got w → Walked most depth met p bs w) where
  run_sound : (f met p : ℕ) (bs : List ℕ) (ts : Nodes) → Octets bs → length bs ≤ f → met ≤ most → run (walk_element most depth) f met p bs ≡ got ts
      → Each (Der depth) p ts × (run_octets ts ≡ bs) × (met + all_nodes ts ≤ most)
  unfolding run Each run_octets all_nodes
  run_sound zero met p [] ts o l h e = rw (← got_inj e) (tt, refl, omega arith)
  run_sound zero met p (x ∷ xs) ts o l h e = absurd (omega arith)
  run_sound (suc f) met p [] ts o l h e = rw (← got_inj e) (tt, refl, omega arith)
  run_sound (suc f) met p (x ∷ xs) ts o l h e =
      bind_case _ _ e λ w ew e₁.
      bind_case _ _ e₁ λ us eu e₂.
      let s = sound met p (x ∷ xs) w o ew in
      let z = node-long w.val in
      let m : length (octets_of w.val ++ w.rest) ≡ suc (length xs) = ap length s.whole in
      let o' : Octets w.rest = octets_right (octets_of w.val) w.rest (rw s.whole o) in
      let less : length w.rest ≤ f = omega (arith, length-append (octets_of w.val) w.rest) in
      let ih = run_sound f (met + nodes w.val) w.next w.rest us o' less s.few eu in
      rw (← got_inj e₂) ((s.der, rw (← s.next) ih.0), rw ih.1 s.whole, omega (arith, ih.2))

  holder_sound : (met p : ℕ) (bs : List ℕ) (h : Taken Header) (ts : Nodes) → met < most → Headed bs h → h.next ≡ p + length (header_octets h.val.id h.val.size)
      → pick (holds h.val.id) (run (walk_element most depth) h.val.size (met + 1) h.next (take h.val.size h.rest)) (got none) ≡ got ts
      → Walked most (suc depth) met p bs (taken (node p h.val.id (take h.val.size h.rest) ts) (h.next + h.val.size) (drop h.val.size h.rest))
  unfolding Der octets_of nodes all_nodes
  holder_sound met p bs h ts l s next e =
      let i : Identifier = h.val.id in
      let n : ℕ = h.val.size in
      let c : List ℕ = take n h.rest in
      let z : length c ≡ n = length-take-le n h.rest s.inside in
      let o : Octets c = octets-left c (drop n h.rest) (rw take-append-drop s.octets) in
      let at : h.next ≡ p + length (header_octets i (length c)) = rw z next in
      let within : T (holds i) → Each (Der depth) h.next ts × (run_octets ts ≡ c) × (met + 1 + all_nodes ts ≤ most) =
      λ y. run_sound n (met + 1) h.next c ts o (omega arith) (omega arith) (sym (pick_yes _ _ _ y) ∙ e) in
      let empty : T (not (holds i)) → ts ≡ none = λ y. got_inj (sym e ∙ pick_no _ _ _ y) in
      record {
        der = (refl, s.good, rw z s.small, (λ y. ((within y).1, rw (← at) (within y).0)), empty);
        whole = element-whole i c n h.rest refl z ∙ s.whole;
        next = omega (arith, element-length i c);
        few = pick_case (holds i) true true refl (λ y q. omega (arith, (within y).2)) (λ y q. rw (empty y) (omega arith));
      }

pub element-sound : (most depth met p : ℕ) (bs : List ℕ) (w : Taken Node) → Octets bs → walk_element most depth met p bs ≡ got w → Walked most depth met p bs w
unfolding walk_element
element-sound most zero met p bs w o e = absurd (refused-got e)
element-sound most (suc d) met p bs w o e =
    guard_case _ _ _ _ e λ t e₁.
    bind_case _ _ e₁ λ h eh e₂.
    bind_case _ _ e₂ λ ts et e₃.
    let s = header-sound p bs h o eh in
    rw (← got_inj e₃) (holder_sound most d (element-sound most d) met p bs h ts (ltb→lt met most t) s (header-next p bs h s eh) et)

-- ---- what is DER is accepted

module _ (most depth : ℕ) (back : (met p : ℕ) (t : Node) (r : List ℕ) → Der depth p t → met + nodes t ≤ most → walk_element most depth met p (octets_of t ++ r) ≡ got (taken t (p + length (octets_of t)) r)) where
  run-back : (f met p : ℕ) (ts : Nodes) → length (run_octets ts) ≤ f → Each (Der depth) p ts → met + all_nodes ts ≤ most → run (walk_element most depth) f met p (run_octets ts) ≡ got ts
  unfolding run_octets Each all_nodes
  run-back f met p none l d h = run_none _ f met p
  run-back zero met p (and t ts) l d h = absurd (omega (arith, node-long t, length-append (octets_of t) (run_octets ts)))
  run-back (suc f) met p (and t ts) l d h =
      let n = length-append (octets_of t) (run_octets ts) in
      let z = node-long t in
      run_step _ f met p (octets_of t ++ run_octets ts) (omega arith)
      ∙ bind-got _ _ _ (back met p t (run_octets ts) d.0 (omega arith))
      ∙ bind-got _ _ _ (run-back f (met + nodes t) (p + length (octets_of t)) ts (omega arith) d.1 (omega arith))

pub element-back : (most depth met p : ℕ) (t : Node) (r : List ℕ) → Der depth p t → met + nodes t ≤ most → walk_element most depth met p (octets_of t ++ r) ≡ got (taken t (p + length (octets_of t)) r)
unfolding walk_element Der octets_of nodes
element-back most zero met p t r d h = absurd d
element-back most (suc depth) met p (node q i c ns) r d h =
    let n : ℕ = length (header_octets i (length c)) in
    let inner : pick (holds i) (run (walk_element most depth) (length c) (met + 1) (p + n) (take (length c) (c ++ r))) (got none) ≡ got ns =
    rw take-append_seam
    (pick_case (holds i) true true refl
    (λ y z. pick_yes _ _ _ y ∙ (rw (d.3 y).0 at (run-back most depth (element-back most depth) (length (run_octets ns)) (met + 1) (p + n) ns (le_refl _) (d.3 y).1 (omega arith))))
    (λ y z. pick_no _ _ _ y ∙ ap got (sym (d.4 y)))) in
    guard_yes _ _ _ _ (lt→ltb met most (omega arith))
    ∙ bind-got _ _ _ (element-header p i c r d.1 d.2)
    ∙ bind-got _ _ _ inner
    ∙ rw (drop-append_seam, take-append_seam, d.0) (same_taken _ _ _ _ r refl (omega (arith, element-length i c)))

-- ---- the first pass

module _ (bytes depth most : ℕ) (bs : List ℕ) (t : Node) where
  pub first_pass_sound : Octets bs → first_pass bytes depth most bs ≡ got t → Within bytes depth most bs t
  unfolding first_pass exactly
  first_pass_sound o e =
      guard_case _ _ _ _ e λ l e₀.
      guard_case _ _ _ _ e₀ λ some e₁.
      bind_case _ _ e₁ λ w ew e₂.
      guard_case _ _ _ _ e₂ λ z e₃.
      let s = element-sound most depth 0 0 bs w o ew in
      let n : w.rest ≡ [] = no_octets w.rest z in
      rw (← got_inj e₃) (record {
        short = leb→le (length bs) bytes l;
        der = s.der;
        few = omega (arith, s.few);
        whole = rw append-nil at (rw n at s.whole);
      })

  pub first_pass_back : Within bytes depth most bs t → first_pass bytes depth most bs ≡ got t
  unfolding first_pass exactly
  first_pass_back d =
      let b = element-back most depth 0 0 t [] d.der (omega (arith, d.few)) in
      let some : 0 < length bs = rw (← d.whole) (node-long t) in
      guard_yes _ _ _ _ (le→leb (length bs) bytes d.short)
      ∙ guard_yes _ _ _ _ (lt→ltb 0 (length bs) some)
      ∙ bind-got _ _ _ (rw (append-nil, d.whole) at b)
      ∙ guard_yes _ _ _ _ tt

pub first_pass_exactly : FirstPassExactly
first_pass_exactly bytes depth most bs t o = (first_pass_sound bytes depth most bs t o, first_pass_back bytes depth most bs t)

pub count-few : CountFew
count-few bytes depth most bs t o e = (first_pass_sound bytes depth most bs t o e).few

-- ---- as many turns as octets are enough: more change nothing

module _ (most depth f g : ℕ) (rest : (met p : ℕ) (bs : List ℕ) → Octets bs → length bs ≤ f → length bs ≤ g → run (walk_element most depth) f met p bs ≡ run (walk_element most depth) g met p bs) where
  turn : (met p : ℕ) (bs : List ℕ) → Octets bs → length bs ≤ suc f → length bs ≤ suc g → (M : Answer (Taken Node)) → walk_element most depth met p bs ≡ M
      → bind M (λ w. bind (run (walk_element most depth) f (met + nodes w.val) w.next w.rest) (λ ts. got (and w.val ts)))
      ≡ bind M (λ w. bind (run (walk_element most depth) g (met + nodes w.val) w.next w.rest) (λ ts. got (and w.val ts)))
  unfolding bind
  turn met p bs o l m (got w) e =
      let s = element-sound most depth met p bs w o e in
      let n : length (octets_of w.val ++ w.rest) ≡ length bs = ap length s.whole in
      let z = node-long w.val in
      let a = length-append (octets_of w.val) w.rest in
      rw (rest (met + nodes w.val) w.next w.rest (octets_right (octets_of w.val) w.rest (rw s.whole o)) (omega arith) (omega arith)) refl
  turn met p bs o l m (refused k q) e = refl

run_turns : (most depth f g met p : ℕ) (bs : List ℕ) → Octets bs → length bs ≤ f → length bs ≤ g → run (walk_element most depth) f met p bs ≡ run (walk_element most depth) g met p bs
run_turns most depth zero g met p [] o l m = run_none _ zero met p ∙ sym (run_none _ g met p)
run_turns most depth (suc f) g met p [] o l m = run_none _ (suc f) met p ∙ sym (run_none _ g met p)
run_turns most depth zero g met p (x ∷ xs) o l m = absurd (omega arith)
run_turns most depth (suc f) zero met p (x ∷ xs) o l m = absurd (omega arith)
run_turns most depth (suc f) (suc g) met p (x ∷ xs) o l m =
    run_step _ f met p (x ∷ xs) (omega arith)
    ∙ turn most depth f g (λ met p bs. run_turns most depth f g met p bs) met p (x ∷ xs) o l m (walk_element most depth met p (x ∷ xs)) refl
    ∙ sym (run_step _ g met p (x ∷ xs) (omega arith))

pub run_enough : RunEnough
run_enough most depth f met p bs o l = run_turns most depth f (length bs) met p bs o l (le_refl _)
