-- Whether the parts of a request name one authority (RFC 9112, section 3.2; RFC 9110, sections
-- 4.2.4 and 7.2).
use Rattle.std.specs.Prelude.{ℕ, Bool, not, ◌||◌, ◌&&◌, if◌then◌else◌, List, [], ◌∷◌, codes, Option, Some, None, is_none}
use Rattle.std.specs.Option.{option_or}
use Rattle.std.specs.Str.{bytes_eq}
use Rattle.h1_error.specs.declared.head_fault.HeadFault.{HeadFault}
use Rattle.h1_error.specs.declared.head_fault.HeadFault.TheVariants as fault
use Rattle.h1_authority.specs.Bytes.{authority_part, has_userinfo}
use Rattle.h1_authority.specs.PortSuffix.{has_ambiguous_port_suffix}
use Rattle.h1_authority.specs.Scheme.{is_http_family_scheme}
use Rattle.h1_authority.specs.RawTarget.{TargetClass, absent, ambiguous, absolute, class_of, is_empty}
use Rattle.h1_authority.specs.ParsedAuthority.{Authority, parse_authority}
use Rattle.h1_authority.specs.declared.hosts.Hosts.{Hosts}
use Rattle.h1_authority.specs.declared.hosts.Hosts.TheVariants as hosts

-- the Host lines of a request, as far as the checks look: with several the first already decides
pub data HostLines : Type 0 where
  no_host : HostLines
  one_host : List ℕ → HostLines
  several_hosts : HostLines

-- the lines that a value of the program stands for
abbrev pub hosts_seen : Hosts → HostLines
hosts_seen hosts.Absent = no_host
hosts_seen (hosts.One value) = one_host value.now
hosts_seen hosts.Several = several_hosts

-- one more Host line
abbrev pub with_host : HostLines → List ℕ → HostLines
with_host no_host value = one_host value
with_host (one_host first) value = several_hosts
with_host several_hosts value = several_hosts

-- the lines so far, and then those with these values
abbrev pub hosts_behind : HostLines → List (List ℕ) → HostLines
hosts_behind lines [] = lines
hosts_behind lines (value ∷ values) = hosts_behind (with_host lines value) values

-- the value of the one line, if there is one
abbrev pub host_value : HostLines → Option (List ℕ)
host_value no_host = None
host_value (one_host value) = Some value
host_value several_hosts = None

abbrev pub fault_if : Bool → HeadFault → Option HeadFault
fault_if refused f = if refused then Some f else None

-- more than one Host line is refused (RFC 9112, section 3.2)
abbrev pub duplicate_fault : HostLines → Option HeadFault
duplicate_fault no_host = None
duplicate_fault (one_host value) = None
duplicate_fault several_hosts = Some fault.DuplicateHost

-- userinfo is refused (RFC 9110, section 4.2.4)
abbrev pub userinfo_fault : Option (List ℕ) → HeadFault → Option HeadFault
userinfo_fault None f = None
userinfo_fault (Some value) f = fault_if (has_userinfo value) f

-- a Host other than the authority of the URI is refused
abbrev pub uri_fault : Option (List ℕ) → Option (List ℕ) → Option HeadFault
uri_fault None authority = None
uri_fault (Some host) None = None
uri_fault (Some host) (Some authority) =
    fault_if (not (bytes_eq host authority)) fault.HostDiffersFromUri

-- what the Host lines and the URI say by themselves
abbrev pub lines_fault : HostLines → Option (List ℕ) → Option HeadFault
lines_fault lines authority =
    option_or (duplicate_fault lines)
    (option_or (userinfo_fault (host_value lines) fault.UserinfoInHost)
    (option_or (userinfo_fault authority fault.UserinfoInUri)
    (uri_fault (host_value lines) authority)))

-- a Host that is neither of two names is refused; no Host is not
abbrev pub connect_host_fault : List ℕ → List ℕ → Option (List ℕ) → Option HeadFault
connect_host_fault authority name None = None
connect_host_fault authority name (Some host) =
    fault_if (not (bytes_eq host authority || bytes_eq host name)) fault.ConnectHostDiffers

-- the same where a Host has to be there
abbrev pub connect_host_owed : List ℕ → List ℕ → Option (List ℕ) → Option HeadFault
connect_host_owed authority name None = Some fault.ConnectHostMissing
connect_host_owed authority name (Some host) = connect_host_fault authority name (Some host)

-- the authority's host, or the whole where it is none by the grammar
abbrev pub host_or_all : List ℕ → Option Authority → List ℕ
host_or_all authority None = authority
host_or_all authority (Some parsed) = parsed.host

-- the target of a CONNECT in absolute form
abbrev pub connect_absolute_fault : List ℕ → Option (List ℕ) → Option HeadFault
connect_absolute_fault authority host =
    option_or (fault_if (has_userinfo authority) fault.UserinfoInTarget)
    (option_or (fault_if (has_ambiguous_port_suffix authority) fault.AmbiguousConnect)
    (connect_host_owed authority (host_or_all authority (parse_authority authority)) host))

-- the target of a CONNECT in no known form: only a front that is no authority has to be the Host's
abbrev pub connect_other_fault : List ℕ → Option Authority → Option (List ℕ) → Option HeadFault
connect_other_fault front (Some parsed) host = None
connect_other_fault front None host =
    if is_empty front then None else connect_host_owed front front host

-- the target of a CONNECT whose front isn't an authority with a port, by its class
abbrev pub connect_class_fault : TargetClass → List ℕ → Option Authority → Option (List ℕ) →
    Option HeadFault
connect_class_fault (absolute scheme authority) front parsed host =
    connect_absolute_fault authority host
connect_class_fault ambiguous front parsed host = Some fault.AmbiguousConnect
connect_class_fault absent front parsed host = connect_other_fault front parsed host

-- the port of an authority, if it is one by the grammar and has a port
abbrev pub port_in : Option Authority → Option ℕ
port_in None = None
port_in (Some parsed) = parsed.port

-- the front of a CONNECT's target: an authority with a port may be the Host's
-- (RFC 9112, section 3.2.3)
abbrev pub connect_front_fault : Option ℕ → TargetClass → List ℕ → Option Authority →
    Option (List ℕ) → Option HeadFault
connect_front_fault (Some port) class front parsed host =
    connect_host_fault front (host_or_all front parsed) host
connect_front_fault None class front parsed host = connect_class_fault class front parsed host

-- the target of a CONNECT, whose front ends before the first `/`, `?` or `#`
abbrev pub connect_fault : List ℕ → Option (List ℕ) → Option HeadFault
connect_fault target host =
    let front = authority_part target in
    let parsed = parse_authority front in
    option_or (fault_if (has_userinfo front) fault.UserinfoInTarget)
    (option_or (fault_if (has_ambiguous_port_suffix front) fault.AmbiguousConnect)
    (connect_front_fault (port_in parsed) (class_of target) front parsed host))

-- an authority that http and https don't have
abbrev pub unparseable_fault : List ℕ → List ℕ → Option HeadFault
unparseable_fault scheme authority =
    fault_if (is_http_family_scheme scheme && is_none (parse_authority authority))
    fault.UnparseableAuthority

-- a Host other than the target's authority is refused
abbrev pub differs_fault : List ℕ → Option (List ℕ) → Option HeadFault
differs_fault authority None = None
differs_fault authority (Some host) =
    fault_if (not (bytes_eq host authority)) fault.HostDiffersFromTarget

-- the target of another method
abbrev pub target_fault : TargetClass → Option (List ℕ) → Option HeadFault
target_fault absent host = None
target_fault ambiguous host = Some fault.AmbiguousTarget
target_fault (absolute scheme authority) host =
    option_or (unparseable_fault scheme authority)
    (option_or (fault_if (has_userinfo authority) fault.UserinfoInTarget)
    (differs_fault authority host))

-- the first fault of a request with this method, target, Host lines and URI authority
abbrev pub fault_of_lines : List ℕ → List ℕ → HostLines → Option (List ℕ) → Option HeadFault
fault_of_lines method target lines authority =
    option_or (lines_fault lines authority)
    (if bytes_eq method (codes "CONNECT") then connect_fault target (host_value lines)
    else target_fault (class_of target) (host_value lines))

-- the same with the values of all Host lines, in order
abbrev pub authority_fault : List ℕ → List ℕ → List (List ℕ) → Option (List ℕ) → Option HeadFault
authority_fault method target values authority =
    fault_of_lines method target (hosts_behind no_host values) authority
