-- `ruling::order::Case::first_refusal` meets its contract: the first group that refuses. Assumes nothing.
use mathlib.Core.Path.{◌≡◌, ap, ◌∙◌}
use borrow.Author.Rules.{rules}
use Rattle.std.specs.Prelude.{Err}
use Rattle.ruling.specs.Code.{number_or_zero}
use Rattle.ruling.proofs.First.{first-shape, first_date, first-token, first_device}
use Rattle.ruling.proofs.order.Case.first_refusal.Goals as goal

pub returns-in_err-shape_refusal : goal.returns-in_err-shape_refusal
returns-in_err-shape_refusal c =
    let e : c.from_residual.result ≡ Err c.in_err-shape_refusal.field-0.0 = search rules in
    ap number_or_zero e ∙ first-shape _ _ _ c.shape_refusal.result c.shape_refusal.ensures _ c.in_err-shape_refusal.was

pub returns-in_err-date_refusal : goal.returns-in_err-date_refusal
returns-in_err-date_refusal c =
    let e : c.from_residual-in_err-date_refusal.result ≡ Err c.in_err-date_refusal.field-0.0 = search rules in
    ap number_or_zero e
    ∙ first_date _ _ _ c.shape_refusal.result c.shape_refusal.ensures c.in_ok-shape_refusal.was c.date_refusal.result c.date_refusal.ensures _ c.in_err-date_refusal.was

pub returns-in_err-token_refusal : goal.returns-in_err-token_refusal
returns-in_err-token_refusal c =
    let e : c.from_residual-in_err-token_refusal.result ≡ Err c.in_err-token_refusal.field-0.0 = search rules in
    ap number_or_zero e
    ∙ first-token _ _ _ c.shape_refusal.result c.shape_refusal.ensures c.in_ok-shape_refusal.was c.date_refusal.result c.date_refusal.ensures c.in_ok-date_refusal.was
    c.token_refusal.result c.token_refusal.ensures _ c.in_err-token_refusal.was

pub returns : goal.returns
returns c =
    first_device _ _ _ c.shape_refusal.result c.shape_refusal.ensures c.in_ok-shape_refusal.was c.date_refusal.result c.date_refusal.ensures c.in_ok-date_refusal.was
    c.token_refusal.result c.token_refusal.ensures c.in_ok-token_refusal.was _ c.device_refusal.ensures
