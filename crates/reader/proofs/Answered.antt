-- Every extension has one reading: the record that its places make, or that of nothing beside its refusal. Assumes nothing.
use mathlib.Core.Path.{◌≡◌, refl, sym, ap, subst, ◌∙◌}
use mathlib.Core.List.{List}
use Prim.Native.Nat.{ℕ, ◌+◌, ◌≤◌}
use lib.ListN.{length}
use lib.Dec.{T}
use Rattle.answer.specs.Answer.{Answer, got, refused}
use Rattle.answer.proofs.Answer.{got_inj, refused-got}
use Rattle.codec.specs.Octets.{Octets}
use Rattle.schema.specs.Content.{place_at, Places, well_shaped}
use Rattle.schema.specs.Parts.{EachPart}
use Rattle.schema.specs.Decode.{read_places}
use Rattle.schema.proofs.Inside.{places_shaped, places_inside}
use Rattle.records.specs.Content.{places_of}
use Rattle.records.specs.Empty.{empty_record}
use Rattle.records.specs.Made.{record_made}
use Rattle.records.specs.declared.Record.{Record}
use Rattle.records.proofs.PartsLie.{parts_lie}
use Rattle.records.proofs.ContentShaped.{content_shaped}
use Rattle.records.proofs.Made.{empty-made}
use Rattle.records.proofs.Making.{made-says, made_slots}
use Rattle.reader.specs.Reading.{Reads}

refusal_is : {A : Type 0} {k p n q : ℕ} → ◌≡◌ {A = Answer A} (refused k p) (refused n q) → (k ≡ n) × (p ≡ q)
refusal_is e = (cc, cc)

pub same_answer : (s : List ℕ) (o o' : Answer ℕ) (r r' : Record) → Reads s o r → Reads s o' r' → (o' ≡ o) × (r' ≡ r)
same_answer s (got n) (got m) r r' g h =
    let e = got_inj (h.is ∙ sym g.is) in
    (ap got (ap (λ (x : Places × ℕ). x.1) e), sym h.made ∙ ap record_made (ap (λ (x : Places × ℕ). x.0) e) ∙ g.made)
same_answer s (got n) (refused k p) r r' g h = absurd (refused-got (h.is ∙ sym g.is))
same_answer s (refused k p) (got m) r r' g h = absurd (refused-got (g.is ∙ sym h.is))
same_answer s (refused k p) (refused j q) r r' g h =
    let e = refusal_is (h.is ∙ sym g.is) in
    (rw (e.0, e.1) refl, h.empty ∙ sym g.empty)

pub some_answer : (s : List ℕ) → Octets s → (a : Answer (Places × ℕ)) → read_places s ≡ a → (o : Answer ℕ) × (r : Record) × Reads s o r
some_answer s b (got w) e =
    let t = places_shaped s w.0 w.1 b e in
    let y = made-says w.0 t in
    let i : EachPart (λ p. p.start + p.len ≤ length s) (places_of (record_made w.0)) = subst (λ (c : Places). EachPart (λ p. p.start + p.len ≤ length s) c) (sym y) (places_inside s w.0 w.1 b e) in (
      got w.1,
      record_made w.0,
      record {
        is = ap (λ (c : Places). got (c, w.1)) y ∙ sym e;
        empty = tt;
        sound = (content_shaped (record_made w.0) place_at (made_slots w.0 t).0 (made_slots w.0 t).1 (subst (λ (c : Places). T (well_shaped c)) (sym y) t), parts_lie (length s) (record_made w.0) i);
        made = ap record_made y;
      },
    )
some_answer s b (refused k p) e = (refused k p, empty_record, record { is = sym e; empty = refl; sound = tt; made = empty-made })
