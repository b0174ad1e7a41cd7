-- `ruling::order::Case::token_refusal` meets its contract: each check of `token_checks` in turn. Assumes nothing.
use mathlib.Core.Path.{◌≡◌, sym, ◌∙◌}
use borrow.Author.Rules.{rules}
use Rattle.std.specs.Prelude.{option_map}
use Rattle.ruling.specs.Ruling.{token_checks}
use Rattle.ruling.proofs.First.{refuses, passes, none_left}
use Rattle.ruling.proofs.Tokens.{kinds-taken, token_found, fresh_found}
use Rattle.ruling.proofs.order.Case.token_refusal.Goals as goal

pub returns-then-token_refused : goal.returns-then-token_refused
unfolding token_checks
returns-then-token_refused c =
    let q = c.args.self.now.request in
    let kinds : c.map-kinds.result ≡ option_map (λ t. t.kinds) q.token = kinds-taken _ _ _ c.map-kinds.ensures.cases (λ x k p. search rules) in
    passes _ _ c.auth_missing.ensures c.if-auth_missing.false
    (refuses _ _ (token_found q _ _ _ _ kinds c.token_refused.ensures) c.if-token_refused.true)

pub returns-then-not_fresh : goal.returns-then-not_fresh
unfolding token_checks
returns-then-not_fresh c =
    let q = c.args.self.now.request in
    let kinds : c.map-kinds.result ≡ option_map (λ t. t.kinds) q.token = kinds-taken _ _ _ c.map-kinds.ensures.cases (λ x k p. search rules) in
    let token = token_found q _ _ _ _ kinds c.token_refused.ensures in
    passes _ _ c.auth_missing.ensures c.if-auth_missing.false
    (passes _ _ token c.if-token_refused.false
    (refuses _ _ (fresh_found q _ _ _ _ _ (sym token ∙ c.if-token_refused.false) _ c.is_some_and-not_fresh.ensures (λ t p. search rules)) c.if-not_fresh.true))

pub returns : goal.returns
unfolding token_checks
returns c =
    let q = c.args.self.now.request in
    let kinds : c.map-kinds.result ≡ option_map (λ t. t.kinds) q.token = kinds-taken _ _ _ c.map-kinds.ensures.cases (λ x k p. search rules) in
    let token = token_found q _ _ _ _ kinds c.token_refused.ensures in
    passes _ _ c.auth_missing.ensures c.if-auth_missing.false
    (passes _ _ token c.if-token_refused.false
    (passes _ _ (fresh_found q _ _ _ _ _ (sym token ∙ c.if-token_refused.false) _ c.is_some_and-not_fresh.ensures (λ t p. search rules)) c.if-not_fresh.false none_left))
