-- A request's token, there or not. What is not there has no types, time or challenge: they stand as 0, and no answer turns
-- on them, since 504 wants a token before they are looked at (`AbsentTokenUnread`).
use Rattle.std.specs.Prelude.{Bool, ℕ, Option, Some, None, is_some}
use Rattle.ruling.specs.declared.request.Request.{Request}
use Rattle.ruling.specs.declared.request.Token.{Token}

abbrev pub token_there : Request → Bool
token_there q = is_some q.token

unfoldable pub of_token : (Token → ℕ) → Option Token → ℕ
of_token f None = 0
of_token f (Some t) = f t

abbrev pub token_kinds : Request → ℕ
token_kinds q = of_token (λ t. t.kinds) q.token

abbrev pub token_time : Request → ℕ
token_time q = of_token (λ t. t.time) q.token

abbrev pub token_challenge : Request → ℕ
token_challenge q = of_token (λ t. t.challenge) q.token
