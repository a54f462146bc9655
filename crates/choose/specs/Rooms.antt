-- What whoever takes two tables as lent leaves of them. Definitions only.
use Rattle.std.specs.Prelude.{◌≡◌}
use Rattle.choose.specs.declared.Tables.{Tables}

-- each table is still the one that was lent
abbrev pub SameRooms : Tables → Tables → Type 0
SameRooms old new = (new.forward.ghost_name ≡ old.forward.ghost_name) × (new.backward.ghost_name ≡ old.backward.ghost_name)
