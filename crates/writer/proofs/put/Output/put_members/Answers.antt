-- `put_members` meets its contract. The invariant: the members before this one are put. Assumes nothing.
use Rattle.std.proofs.Common.{◌≡◌, ◌∙◌, ℕ, take, get_or, length}
use Rattle.std.specs.declared.iter.Take.{Take}
use Rattle.std.specs.declared.slice.Iter.{Iter}
use Rattle.std.specs.Slice.Iter.{iter_rest}
use Rattle.std.specs.Iterator.Adapters.{take_source, take_count, take_steps}
use Rattle.records.specs.declared.NumberSet.{NumberSet}
use Rattle.std.proofs.lemmas.Iterator.{YieldsList, YieldsList-from_slice, YieldsList-from_take}
use Rattle.std.proofs.lemmas.Iterator.Consumers.{YieldsList-turn}
use Rattle.std.proofs.lemmas.List.{length_push, get_or_default}
use Rattle.std.proofs.lemmas.Fn.{fronts}
use Rattle.writer.proofs.Puts.{nothing, members_more}
use Rattle.writer.proofs.put.Output.put_members.Goals as goal

-- what the loop goes over: the slots, as many as the count
abbrev Goes : NumberSet → Take (Iter ℕ) → Type 0
Goes g i = YieldsList (take_steps fronts) (λ y. y.now) i (take g.count g.members)

goes : (g : NumberSet) (slots : Iter ℕ) (i t : Take (Iter ℕ)) → iter_rest slots ≡ g.members → take_source t ≡ slots → take_count t ≡ g.count → i ≡ t → Goes g i
goes g slots i t e f n h =
    let a = YieldsList-from_slice g.members e in
    let source : YieldsList fronts (λ y. y.now) (take_source t) g.members = rw f a in
    let b = YieldsList-from_take {s = t} g.count source n in
    rw h b

pub loop-member-init : goal.loop-member-init
loop-member-init c = nothing c.args.self.now

pub loop-member-preserved : goal.loop-member-preserved
loop-member-preserved c =
    let g = c.args.g in
    let e = goes g c.iter.result c.into_iter-member-iterator.result c.take-member-items.result (cc) c.take-member-items.ensures.source c.take-member-items.ensures.count c.into_iter-member-iterator.ensures.into_iter_gives in
    let t = YieldsList-turn e c.loop-member.yielded _ c.loop-member.yielded_by _ _ c.in-Some.member c.in-Some.is c.next.ensures.steps in
    let m = take g.count g.members in
    let x : c.from.result ≡ get_or m (length c.loop-member.yielded) 0 = c.from.ensures ∙ t.1 ∙ get_or_default m (length c.loop-member.yielded) c.in-Some.member.now 0 t.0 in
    rw length_push (members_more m (length c.loop-member.yielded) c.from.result t.0 x c.loop-member.invariant c.put_integer.ensures)
