-- What the walk answers, in plain variables: one law for each answer of an element, of a run and of the whole.
-- The count goes along in the code and is added up in the tree (`shift`). Assumes nothing.
use mathlib.Core.Path.{◌≡◌, refl, ap, sym, ◌∙◌}
use mathlib.Core.Bool.{true, false}
use mathlib.Core.List.{List, []}
use Prim.Native.Nat.{ℕ, zero, suc, ◌+◌, ◌-◌, ◌%◌, ◌<◌, ◌≤◌}
use native.Mathlib.Nat.{add_assoc, add-zero, zero-add, le_refl}
use native.Mathlib.Numerals.{sub-one}
use native.Mathlib.Omega.{arith}
use lib.Dec.{eqb}
use lib.ListN.{length, take, drop, length-take}
use lib.Seq.{slice, slice_empty, length-slice, drop-drop, take-length, take-take, take-add, drop_at, length-take-le}
use borrow.Author.Tests.{lt-ltb, le-ltb, eq-eqb, ne_eqb, le-leb, lt-leb}
use Rattle.answer.specs.Answer.{Answer, got, refused, guard, bind, pick}
use Rattle.answer.proofs.Answer.{got_inj, refused-got, refused_as}
use Rattle.codec.specs.Octets.{Taken, taken}
use Rattle.codec.specs.Header.{Identifier, identifier, header, holds, read_header}
use Rattle.codec.specs.Element.{exactly}
use Rattle.codec.specs.Tree.{Node, Nodes, node, and, nodes, all_nodes, run, walk_element, first_pass}
use Rattle.codec.proofs.Octets.{same_taken}
use Rattle.codec.proofs.Tree.{run_none, run_step}
use Rattle.der.specs.Walk.{counted, summed, node_count}

-- ---- an element

flat : (f n : ℕ) → f % 2 ≡ 0 → holds (identifier f n) ≡ false
unfolding holds
flat f n h = ne_eqb (f % 2) 1 (omega arith)

holding : (f n : ℕ) → (f % 2 ≡ 0 → ⊥) → holds (identifier f n) ≡ true
unfolding holds
holding f n h = eq-eqb (f % 2) 1 (omega arith)

-- parts of a part
pub rest_part : (s : List ℕ) (b end z : ℕ) → drop z (slice b end s) ≡ slice (b + z) end s
rest_part s b end z = drop-drop z b (take end s)

pub front_part : (s : List ℕ) (b end z : ℕ) → end ≤ length s → b + z ≤ end → take z (slice b end s) ≡ slice b (b + z) s
front_part s b end z fit h =
    let l : List ℕ = take end s in
    sym (drop_at (take b l) (take z (drop b l)) b (length-take-le b l (omega (arith, length-take end s))))
    ∙ rw (← take-add b z l, take-take (b + z) end s h) refl

-- a holder's own bytes, from a place on
pub holder_part : (s h : List ℕ) (x a : ℕ) → h ≡ take x s → slice a (length h) h ≡ slice a x s
holder_part s h x a e = rw (take-length h, e) refl

-- a law of a holder's own bytes is one of their part of all bytes
pub held : (s : List ℕ) (b x : ℕ) (A : Answer ℕ) (R : ℕ → List ℕ → Answer ℕ) → x ≤ length s
    → ((f : ℕ) → length (take x s) - b ≤ f → A ≡ R f (slice b (length (take x s)) (take x s))) → (g : ℕ) → x - b ≤ g → A ≡ R g (slice b x s)
held s b x A R l h g e = rw (holder_part s (take x s) x b refl) at (h g (omega (arith, length-take-le x s l)))

-- what a holder's run answers is what the holder answers
module _ (s : List ℕ) (end at met x : ℕ) (i : Identifier) (c : List ℕ) where
  run_as_step : (m : ℕ) (M : Answer Nodes) → got m ≡ summed (met + 1) M → got (taken m x (slice x end s)) ≡ counted met (bind M (λ ts. got (taken (node at i c ts) x (slice x end s))))
  unfolding bind nodes
  run_as_step m (got ts) e = same_taken _ _ _ _ _ (got_inj e ∙ omega arith) refl
  run_as_step m (refused k p) e = absurd (refused-got (sym e))

  no_run_as_step : (k p : ℕ) (M : Answer Nodes) → refused k p ≡ summed (met + 1) M → refused k p ≡ counted met (bind M (λ ts. got (taken (node at i c ts) x (slice x end s))))
  unfolding bind nodes
  no_run_as_step k p (got ts) e = absurd (refused-got e)
  no_run_as_step k p (refused k₂ p₂) e = refused_as e

module _ (s : List ℕ) (most end at met : ℕ) where
  pub element_deep : (d : ℕ) → d ≡ 0 → refused 5 at ≡ counted met (walk_element most d met at (slice at end s))
  unfolding walk_element
  element_deep zero e = refl
  element_deep (suc d) e = absurd (omega arith)

  pub element_many : (d : ℕ) → (d ≡ 0 → ⊥) → most ≤ met → refused 6 at ≡ counted met (walk_element most d met at (slice at end s))
  unfolding walk_element guard
  element_many zero e h = absurd (e refl)
  element_many (suc d) e h = simp (le-ltb _ _ h)

  pub element_no : (d k p : ℕ) → (d ≡ 0 → ⊥) → met < most → refused k p ≡ read_header at (slice at end s) → refused k p ≡ counted met (walk_element most d met at (slice at end s))
  unfolding walk_element guard bind
  element_no zero k p e h q = absurd (e refl)
  element_no (suc d) k p e h q = simp (lt-ltb _ _ h, ← q)

  module _ (f m z b : ℕ) (q : got (taken (header (identifier f m) z) b (slice b end s)) ≡ read_header at (slice at end s)) where
    pub element_flat : (d : ℕ) → (d ≡ 0 → ⊥) → met < most → f % 2 ≡ 0 → got (taken (met + 1) (b + z) (slice (b + z) end s)) ≡ counted met (walk_element most d met at (slice at end s))
    unfolding walk_element guard bind pick nodes all_nodes
    element_flat zero e h o = absurd (e refl)
    element_flat (suc d) e h o = simp (lt-ltb _ _ h, ← q, flat f m o, rest_part)

    -- what holds elements answers what the run of them does, and goes on where it ends
    module _ (fit : end ≤ length s) (from : at < b) (to : b + z ≤ end) where
      pub element_held : (d : ℕ) → (d ≡ 0 → ⊥) → met < most → (f % 2 ≡ 0 → ⊥) → (n : ℕ)
          → ((g : ℕ) → b + z - b ≤ g → got n ≡ summed (met + 1) (run (walk_element most (d - 1)) g (met + 1) b (slice b (b + z) s)))
          → got (taken n (b + z) (slice (b + z) end s)) ≡ counted met (walk_element most d met at (slice at end s))
      unfolding walk_element guard bind pick
      element_held zero e h o n ih = absurd (e refl)
      element_held (suc d) e h o n ih =
          simp (lt-ltb _ _ h, ← q, holding f m o, rest_part, front_part s b end z fit to)
          (run_as_step s end at met (b + z) (identifier f m) (slice b (b + z) s) n (run (walk_element most d) z (met + 1) b (slice b (b + z) s)) (rw sub-one at (ih z (omega arith))))

      pub element_held_no : (d : ℕ) → (d ≡ 0 → ⊥) → met < most → (f % 2 ≡ 0 → ⊥) → (k p : ℕ)
          → ((g : ℕ) → b + z - b ≤ g → refused k p ≡ summed (met + 1) (run (walk_element most (d - 1)) g (met + 1) b (slice b (b + z) s)))
          → refused k p ≡ counted met (walk_element most d met at (slice at end s))
      unfolding walk_element guard bind pick
      element_held_no zero e h o k p ih = absurd (e refl)
      element_held_no (suc d) e h o k p ih =
          simp (lt-ltb _ _ h, ← q, holding f m o, rest_part, front_part s b end z fit to)
          (no_run_as_step s end at met (b + z) (identifier f m) (slice b (b + z) s) k p (run (walk_element most d) z (met + 1) b (slice b (b + z) s)) (rw sub-one at (ih z (omega arith))))

-- ---- a run

-- the count goes along, or is added up in the tree
shift : (met : ℕ) (t : Node) (M : Answer Nodes) → summed (met + nodes t) M ≡ summed met (bind M (λ ts. got (and t ts)))
unfolding bind all_nodes
shift met t (got ts) = ap got (add_assoc _ _ _)
shift met t (refused k p) = refl

module _ (s : List ℕ) (one : ℕ → ℕ → List ℕ → Answer (Taken Node)) (end : ℕ) where
  -- what is left of the run from (p, n) gives what the run from (at, met) gives, whatever fuel that has
  abbrev pub Left : ℕ → ℕ → ℕ → ℕ → Type 0
  Left at met p n =
      (f : ℕ) → end - at ≤ f → (g : ℕ) × (end - p ≤ g) × (summed n (run one g n p (slice p end s)) ≡ summed met (run one f met at (slice at end s)))

  pub left_all : (at met : ℕ) → Left at met at met
  left_all at met f l = (f, l, refl)

  turn : (f at met : ℕ) → at < end → end ≤ length s
      → run one (suc f) met at (slice at end s) ≡ bind (one met at (slice at end s)) (λ w. bind (run one f (met + nodes w.val) w.next w.rest) (λ ts. got (and w.val ts)))
  turn f at met l fit = run_step one f met at (slice at end s) (omega (arith, length-slice at end s fit))

  refused_turn : (n p k q : ℕ) → p < end → end ≤ length s → refused k q ≡ counted n (one n p (slice p end s)) → (g : ℕ) → end - p ≤ g → refused k q ≡ summed n (run one g n p (slice p end s))
  unfolding bind
  refused_turn n p k q l fit e zero h = absurd (omega arith)
  refused_turn n p k q l fit e (suc g) h = rw (turn g p n l fit) (go (one n p (slice p end s)) e)
    where
      go : (R : Answer (Taken Node)) → refused k q ≡ counted n R → refused k q ≡ summed n (bind R (λ w. bind (run one g (n + nodes w.val) w.next w.rest) (λ ts. got (and w.val ts))))
      go (got v) z = absurd (refused-got z)
      go (refused k₂ q₂) z = refused_as z

  past_turn : (n p x m : ℕ) → p < end → end ≤ length s → p < x → x ≤ end → got (taken m x (slice x end s)) ≡ counted n (one n p (slice p end s))
      → (g : ℕ) → end - p ≤ g → (g' : ℕ) × (end - x ≤ g') × (summed m (run one g' m x (slice x end s)) ≡ summed n (run one g n p (slice p end s)))
  unfolding bind
  past_turn n p x m l fit i j e zero h = absurd (omega arith)
  past_turn n p x m l fit i j e (suc g) h = (g, omega arith, rw (turn g p n l fit) (go (one n p (slice p end s)) e))
    where
      go : (R : Answer (Taken Node)) → got (taken m x (slice x end s)) ≡ counted n R
          → summed m (run one g m x (slice x end s)) ≡ summed n (bind R (λ w. bind (run one g (n + nodes w.val) w.next w.rest) (λ ts. got (and w.val ts))))
      go (got v) z =
          let q = got_inj z in
          let a : m ≡ n + nodes v.val = ap (λ (u : Taken ℕ). u.val) q in
          let b : x ≡ v.next = ap (λ (u : Taken ℕ). u.next) q in
          let c : slice x end s ≡ v.rest = ap (λ (u : Taken ℕ). u.rest) q in
          rw (c, a, b) (shift n v.val (run one g (n + nodes v.val) v.next v.rest))
      go (refused k p) z = absurd (refused-got (sym z))

  -- the run's answer where an element is refused, where one more is past, and at the end
  pub run_no : (at met n p k q : ℕ) → Left at met p n → p < end → end ≤ length s → refused k q ≡ counted n (one n p (slice p end s)) → (f : ℕ) → end - at ≤ f → refused k q ≡ summed met (run one f met at (slice at end s))
  run_no at met n p k q z l fit e f h = let y = z f h in refused_turn n p k q l fit e y.0 y.1 ∙ y.2

  pub run_more : (at met n p x m : ℕ) → Left at met p n → p < end → end ≤ length s → p < x → x ≤ end → got (taken m x (slice x end s)) ≡ counted n (one n p (slice p end s)) → Left at met x m
  run_more at met n p x m z l fit i j e f h =
      let y = z f h in
      let t = past_turn n p x m l fit i j e y.0 y.1 in
      (t.0, t.1, t.2 ∙ y.2)

  pub run_end : (at met n p : ℕ) → Left at met p n → p ≤ end → end ≤ p → (f : ℕ) → end - at ≤ f → got n ≡ summed met (run one f met at (slice at end s))
  unfolding all_nodes
  run_end at met n p z l l' f h =
      let y = z f h in
      let q : p ≡ end = omega arith in
      let o : slice p end s ≡ [] = rw q (slice_empty end s) in
      ap got (sym (add-zero n)) ∙ (rw (o, run_none) at y.2)

-- ---- the whole

module _ (s : List ℕ) (bytes depth most : ℕ) where
  pub all_long : bytes < length s → refused 1 0 ≡ node_count (first_pass bytes depth most s)
  unfolding first_pass guard
  all_long h = rw (lt-leb _ _ h) refl

  pub all_missing : length s ≤ bytes → length s ≡ 0 → refused 2 0 ≡ node_count (first_pass bytes depth most s)
  unfolding first_pass guard
  all_missing h z = rw (le-leb _ _ h, z) refl

  inner : Answer (Taken Node) → Answer Node
  inner R = bind R λ w. guard (eqb (length w.rest) 0) 7 w.next (got w.val)

  unrolled : length s ≤ bytes → (length s ≡ 0 → ⊥) → first_pass bytes depth most s ≡ inner (walk_element most depth 0 0 (slice 0 (length s) s))
  unfolding first_pass exactly guard inner
  unrolled h z = rw (le-leb _ _ h, lt-ltb 0 (length s) (omega arith), take-length) refl

  module _ (h : length s ≤ bytes) (some : length s ≡ 0 → ⊥) where
    pub all_no : (k p : ℕ) → refused k p ≡ counted 0 (walk_element most depth 0 0 (slice 0 (length s) s)) → refused k p ≡ node_count (first_pass bytes depth most s)
    unfolding inner bind
    all_no k p e = rw (unrolled h some) (go (walk_element most depth 0 0 (slice 0 (length s) s)) e)
      where
        go : (R : Answer (Taken Node)) → refused k p ≡ counted 0 R → refused k p ≡ node_count (inner R)
        go (got v) z = absurd (refused-got z)
        go (refused k₂ p₂) z = refused_as z

    module _ (x n : ℕ) (e : got (taken n x (slice x (length s) s)) ≡ counted 0 (walk_element most depth 0 0 (slice 0 (length s) s))) where
      pub all_ok : x ≡ length s → got n ≡ node_count (first_pass bytes depth most s)
      unfolding inner bind guard
      all_ok o = rw (unrolled h some) (go (walk_element most depth 0 0 (slice 0 (length s) s)) e)
        where
          go : (R : Answer (Taken Node)) → got (taken n x (slice x (length s) s)) ≡ counted 0 R → got n ≡ node_count (inner R)
          go (got v) z =
              let g = got_inj z in
              let c : length v.rest ≡ 0 = sym (ap (λ (u : Taken ℕ). length u.rest) g) ∙ length-slice x (length s) s (le_refl _) ∙ omega arith in
              rw (eq-eqb _ _ c) (ap got (ap (λ (u : Taken ℕ). u.val) g ∙ zero-add _))
          go (refused k p) z = absurd (refused-got (sym z))

      pub all_spare : 0 < x → x ≤ length s → (x ≡ length s → ⊥) → refused 7 x ≡ node_count (first_pass bytes depth most s)
      unfolding inner bind guard
      all_spare i j o = rw (unrolled h some) (go (walk_element most depth 0 0 (slice 0 (length s) s)) e)
        where
          go : (R : Answer (Taken Node)) → got (taken n x (slice x (length s) s)) ≡ counted 0 R → refused 7 x ≡ node_count (inner R)
          go (got v) z =
              let g = got_inj z in
              let c : length v.rest ≡ length s - x = sym (ap (λ (u : Taken ℕ). length u.rest) g) ∙ length-slice x (length s) s (le_refl _) in
              rw (ne_eqb (length v.rest) 0 (λ y. o (omega arith))) (ap (refused 7) (ap (λ (u : Taken ℕ). u.next) g))
          go (refused k p) z = absurd (refused-got (sym z))
