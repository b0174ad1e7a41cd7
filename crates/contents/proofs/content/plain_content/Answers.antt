-- `plain_content` meets its contract, kind by kind. Assumes nothing.
use Rattle.contents.proofs.Contents.{as_number32, as_number64, as_null, as_octets_lem, as_none}
use Rattle.contents.proofs.content.plain_content.Goals as goal

pub returns-in-Number32-clause-is : goal.returns-in-Number32-clause-is
returns-in-Number32-clause-is c = as_number32 _ _ _ _ _ c.in-Number32.is c.number_content.ensures.is

pub returns-in-Number64-clause-is : goal.returns-in-Number64-clause-is
returns-in-Number64-clause-is c = as_number64 _ _ _ _ _ c.in-Number64.is c.number_content-in-Number64.ensures.is

pub returns-in-Null-clause-is : goal.returns-in-Null-clause-is
returns-in-Null-clause-is c = as_null _ _ _ _ _ c.in-Null.is c.null_content.ensures.is

pub returns-in-Octets-clause-is : goal.returns-in-Octets-clause-is
returns-in-Octets-clause-is c = as_octets_lem _ _ _ _ _ c.in-Octets.is c.octets_content.ensures.is

pub returns-in_default-clause-is : goal.returns-in_default-clause-is
returns-in_default-clause-is c = search as_none
