use Rattle.std.proofs.Common.{◌≡◌, drop}
use Rattle.h1_authority.specs.ParsedAuthority.{behind_userinfo_from, behind_userinfo}
use Rattle.h1_authority.proofs.parsed_authority.behind_userinfo.Given as goal

abbrev pub invariant-loop-at : goal.invariant-loop-at
invariant-loop-at l = behind_userinfo_from l.rest (drop l.at l.bytes) ≡ behind_userinfo l.bytes
