-- The token: what the code takes of it is what is defined; and where there is none, and 40 lets that pass, no list has 504.
-- Assumes nothing.
use mathlib.Core.Logic.{inl, inr}
use mathlib.Core.Path.{◌≡◌, refl, ◌∙◌}
use mathlib.Core.Bool.{Bool, false, true≢false}
use mathlib.Core.Option.{Option, none, some}
use Prim.Native.Nat.{ℕ}
use Rattle.std.specs.Prelude.{Some, None, is_some, option_map, MatchOption, IsSomeAnd}
use Rattle.std.specs.Prelude as code
use Rattle.checks.specs.Tags.{allows, there}
use Rattle.checks.specs.Checks.{token_refused, fresh_refused}
use Rattle.checks.specs.Code.{of_number_tag, or_zero}
use Rattle.ruling.specs.Statements.{AbsentTokenUnread}
use Rattle.ruling.specs.Token.{of_token, token_there, token_kinds, token_time, token_challenge}
use Rattle.ruling.specs.declared.request.Token.{Token}
use Rattle.ruling.specs.declared.request.Request.{Request}

pub kinds-taken : (Gives : Token → ℕ → Type 0) (o : code.Option Token) (r : code.Option ℕ) → MatchOption o (r ≡ None) (λ x. IsSomeAnd r (Gives x))
    → ((x : Token) (k : ℕ) → Gives x k → k ≡ x.kinds) → r ≡ option_map (λ t. t.kinds) o
kinds-taken Gives None r e m = e
kinds-taken Gives (Some x) None e m = absurd e
kinds-taken Gives (Some x) (Some k) e m = rw (m x k e) refl

there-taken : (o : code.Option Token) → is_some (option_map (λ t. t.kinds) o) ≡ is_some o
there-taken None = refl
there-taken (Some t) = refl

kinds-said : (o : code.Option Token) → or_zero (of_number_tag (option_map (λ t. t.kinds) o)) ≡ of_token (λ t. t.kinds) o
unfolding or_zero of_token
kinds-said None = refl
kinds-said (Some t) = refl

module _ (q : Request) (s h : Option ℕ) (b : Bool) where
  pub token_found : (r : code.Option ℕ) → r ≡ option_map (λ t. t.kinds) q.token → b ≡ token_refused (is_some r) (or_zero (of_number_tag r)) s h → b ≡ token_refused (token_there q) (token_kinds q) s h
  token_found r e f = f ∙ rw (e, there-taken q.token, kinds-said q.token) refl

not_asked : (q : Request) (s h st ht : Option ℕ) → q.token ≡ None → token_refused (token_there q) (token_kinds q) s h ≡ false
    → false ≡ fresh_refused q.uptime (token_time q) q.handle (token_challenge q) s h st ht
unfolding token_refused fresh_refused allows there of_token
not_asked q s h st ht e n = rw e (go s h (rw e at n))
  where
    go : (s h : Option ℕ) → token_refused false 0 s h ≡ false → false ≡ fresh_refused q.uptime 0 q.handle 0 s h st ht
    go none none p = refl
    go none (some y) p = absurd (true≢false p)
    go (some x) h p = absurd (true≢false p)

pub fresh_found : (q : Request) (s h st ht : Option ℕ) (r : Bool) → token_refused (token_there q) (token_kinds q) s h ≡ false
    → (Gives : Token → Type 0) → MatchOption q.token (r ≡ false) Gives → ((t : Token) → Gives t → r ≡ fresh_refused q.uptime t.time q.handle t.challenge s h st ht)
    → r ≡ fresh_refused q.uptime (token_time q) q.handle (token_challenge q) s h st ht
unfolding of_token
fresh_found q s h st ht r n Gives e m = go q.token refl e
  where
    go : (o : code.Option Token) → q.token ≡ o → MatchOption o (r ≡ false) Gives → r ≡ fresh_refused q.uptime (token_time q) q.handle (token_challenge q) s h st ht
    go None i f = f ∙ not_asked q s h st ht i n
    go (Some t) i f = m t f ∙ rw i refl

pub absent_token_unread : AbsentTokenUnread
unfolding token_refused fresh_refused allows there
absent_token_unread k t c u w none none st ht = (refl, inr refl)
absent_token_unread k t c u w none (some y) st ht = (refl, inl refl)
absent_token_unread k t c u w (some x) h st ht = (refl, inl refl)
