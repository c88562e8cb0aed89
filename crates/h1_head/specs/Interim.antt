-- The responses behind which another to the same request follows (RFC 9110, section 15.2).
use Rattle.std.specs.Prelude.{ℕ, Bool, ◌&&◌, ◌==◌, nat_le, nat_lt, not}

-- 1xx, but 101, behind which the connection changes its protocol (RFC 9110, section 15.2.2)
abbrev pub is_interim : ℕ → Bool
is_interim status = nat_le 100 status && nat_lt status 200 && not (status == 101)
