-- How long a connection may take.
use Rattle.std.specs.Prelude.{ℕ, ◌-◌, ◌/◌, min, Bool, false, ◌&&◌, ◌||◌, nat_le, nat_lt}
use Rattle.std.specs.Duration.{as_nanos}
use Rattle.std.specs.declared.time.Duration.{Duration}
use Rattle.rp_sockets.specs.declared.deadlines.Times.{Times}
use Rattle.rp_sockets.specs.declared.deadlines.Awaited.{Awaited}
use Rattle.rp_sockets.specs.declared.deadlines.Awaited.TheVariants.{Nothing, Head, Body, Reply, Close}

-- the whole seconds from one time to another
abbrev pub seconds : Duration → Duration → ℕ
seconds from to = (as_nanos to - as_nanos from) / 1_000_000_000

-- How many bytes of a message came by when this is waited for, of so many that came before: none of the next one; and once it is
-- answered, of those of the next that may be at hand 32,768 at most.
abbrev pub came_by : Awaited → ℕ → ℕ
came_by Nothing came = 0
came_by Head came = came
came_by Body came = came
came_by Reply came = min came 32_768
came_by Close came = came

-- So many seconds are too long for what is awaited, while so many bytes came: 30 for the rest of a head, and 5 for the peer to close. A
-- body may come as it likes for 30, and from then on 1,024 bytes have to have come for each second.
abbrev pub is_too_long : Awaited → ℕ → ℕ → Bool
is_too_long Nothing passed came = false
is_too_long Head passed came = nat_le 30 passed
is_too_long Body passed came = nat_le 30 passed && nat_lt (came / 1024) passed
is_too_long Reply passed came = false
is_too_long Close passed came = nat_le 5 passed

-- nothing moved for 60 seconds, or what is awaited takes too long
abbrev pub is_late : Times → Duration → Bool
is_late times now = nat_le 60 (seconds times.moved now) || is_too_long times.awaited (seconds times.since now) times.came
