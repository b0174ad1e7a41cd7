-- `members_size` meets its contract: what was added so far is the size of the members so far. Assumes nothing.
use Rattle.std.proofs.Common.{take, sym, subst, rules}
use Rattle.std.proofs.lemmas.Iterator.{YieldsList, YieldsList-from_slice, YieldsList-from_take}
use Rattle.std.proofs.lemmas.Fn.{fold_over, fronts}
use Rattle.std.specs.Iterator.Adapters.{take_steps}
use Rattle.codec.specs.Integer.{integer_element}
use Rattle.codec.specs.Element.{chain_octets}
use Rattle.sizes.specs.Size.{Sized}
use Rattle.sizes.proofs.Sizing.{nothing, chain_more}
use Rattle.sizes.proofs.members_size.Goals as goal

pub returns : goal.returns
returns c =
    let g = c.args.g in
    let slots = YieldsList-from_slice g.members cc in
    let members = YieldsList-from_take g.count (subst (λ i. YieldsList fronts (λ y. y.now) i g.members) (sym c.take.ensures.source) slots) c.take.ensures.count in
    fold_over (take_steps fronts) (λ x. x.now) _ (λ xs n. Sized (chain_octets integer_element xs) n) _
    (λ xs n x r f k h. search (rules, chain_more))
    c.take.result (take g.count g.members) 0 _ members.runs nothing c.fold.ensures.ran
