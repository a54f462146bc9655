-- What is known of a row that is not refused. Assumes nothing.
use Rattle.std.specs.Prelude.{◌≡◌, not, List, ℕ, ◌<◌, eqb, ltb, leb, length}
use Rattle.std.proofs.Common.{eqb-true, ltb-false, leb-false}
use Rattle.std.proofs.lemmas.Bool.{not-false}
use Rattle.told.specs.Told.{when}
use Rattle.told.proofs.ToldLaws.{neither, not_held}
use Rattle.sizes.specs.Sizes.{values, table_size, length_refuses, limits_refuse}
use Rattle.sizes.specs.SizeLaws.{length_sound, limits_sound}
use Rattle.layers.specs.Steps.{Fillable}
use Rattle.row.specs.Answers.{lists_refuse, place_refuses, row_refuses}

-- a row and tables that 1, 2 and 3 let pass
pub row_sound : (ws ds : List ℕ) (low high : ℕ) (forward backward : List ℕ) → row_refuses ws ds low high forward backward ≡ 0
    → Fillable ws ds low high forward backward
row_sound ws ds low high forward backward e =
    let n = length ds in
    let a = neither (lists_refuse (length ws) n) _ e in
    let b = neither (limits_refuse low high) _ a.1 in
    let lists = neither (length_refuses n) _ a.0 in
    let tables = neither (when (ltb (length forward) table_size) 3) _ b.1 in
    let cells = length_sound n lists.0 in
    let limits = limits_sound low high b.0 in
    let same = eqb-true (length ws) n (not-false (eqb (length ws) n) (not_held (not (eqb (length ws) n)) 0 lists.1)) in
    record {
      sound = record { some = cells.0; most = cells.1; same = same; ordered = limits.0; limit = limits.1 };
      forward_room = ltb-false (length forward) table_size (not_held (ltb (length forward) table_size) 2 tables.0);
      backward_room = ltb-false (length backward) table_size (not_held (ltb (length backward) table_size) 2 tables.1);
    }

-- a place and a value that 4 lets pass
pub place_sound : (cells place value : ℕ) → place_refuses cells place value ≡ 0 → (place < cells) × (value < values)
place_sound cells place value e =
    let both = neither (when (leb cells place) 4) _ e in
    (leb-false cells place (not_held (leb cells place) 3 both.0), leb-false values value (not_held (leb values value) 3 both.1))
