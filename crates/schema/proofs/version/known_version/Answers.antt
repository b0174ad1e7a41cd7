-- `schema::version::known_version` meets its contract: one of the seven, or none of them. Assumes nothing.
use Rattle.schema.proofs.Versions.{version-first, version-named, version-none, version_other}
use Rattle.schema.proofs.version.known_version.Goals as goal

pub returns-in_default : goal.returns-in_default
returns-in_default c = search version-none

pub returns-in_default-2 : goal.returns-in_default-2
returns-in_default-2 c = search version_other

pub returns-in-1 : goal.returns-in-1
returns-in-1 c = search version-named

pub returns-in-1-2 : goal.returns-in-1-2
returns-in-1-2 c = search version-first
