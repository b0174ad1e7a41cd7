-- `read_header` meets its contract: a whole header, or its refusal at the place that is reported. Assumes nothing.
use Rattle.std.proofs.Common.{rules}
use Rattle.der.proofs.Headers.{header_mapped}
use Rattle.der.proofs.header.read_header.Goals as goal

pub returns-clause-is : goal.returns-clause-is
returns-clause-is c = header_mapped _ _ _ _ _ _ c.whole_header.ensures.is c.map_err.ensures.cases (λ e r q. search rules)
