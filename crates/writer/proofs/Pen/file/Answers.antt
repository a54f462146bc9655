-- `Pen::file` meets its contract: the domains, the rows and the trailer stand one after the other, and there is room for them. Assumes nothing.
use mathlib.Core.Path.{◌≡◌, ap}
use Prim.Native.Nat.{ℕ, ◌≤◌}
use native.Mathlib.Omega.{arith}
use borrow.Author.Rules.{rules}
use lib.ListN.{length}
use lib.Seq.{length-take-le}
use Rattle.sizes.specs.Sizes.{board_cells, board_rows}
use Rattle.board.specs.RefusalLaws.{board_sound}
use Rattle.writer.specs.Bytes.{joined, domain_bytes, file_of}
use Rattle.writer.specs.Steps.{Puts}
use Rattle.writer.specs.BytesLaws.{domains_size, domains_front, rows_front, short_front, rows_short, file_size_lem}
use Rattle.writer.proofs.Runs.{then, room_stays}
use Rattle.writer.proofs.Pen.file.Goals as goal
use Rattle.writer.proofs.Pen.file.Goals.{Start, After-domains}

cells_fit : (c : Start) → c.args.board.cells ≤ length c.args.board.domains
cells_fit c =
    let all : length c.args.board.domains ≡ board_cells = search rules in
    omega (arith, (board_sound _ c.requires.0).sizes.cells_most)

rows_fit : (c : Start) → c.args.board.rows ≤ length c.args.board.lines
rows_fit c =
    let all : length c.args.board.lines ≡ board_rows = search rules in
    omega (arith, (board_sound _ c.requires.0).sizes.rows_most)

pub shared_ref_as_front-domains : goal.shared_ref_as_front-domains
shared_ref_as_front-domains c = (board_sound _ c.requires.0).sizes.cells_most

pub domains-requires : goal.domains-requires
domains-requires c =
    let b = c.args.board in
    let n = length-take-le b.cells b.domains (cells_fit (goal.at.domains-requires c).Start) in
    omega (arith, n, file_size_lem b, c.requires.1)

pub shared_ref_as_front-rows : goal.shared_ref_as_front-rows
shared_ref_as_front-rows c = (board_sound _ c.requires.0).sizes.rows_most

-- what the domains, and the rows, have put
domains_put : (c : After-domains) → Puts c.args.self.now (joined (domain_bytes c.args.board.domains) c.args.board.cells) c.domains.new.self
domains_put c =
    let b = c.args.board in
    rw (domains_front b.domains b.cells (cells_fit (goal.at.After-domains c).Start)) at c.domains.ensures

pub rows-requires : goal.rows-requires
rows-requires c =
    let b = c.args.board in
    let fit = rows_fit (goal.at.rows-requires c).Start in
    let domains = domains_put (goal.at.rows-requires c).After-domains in
    let front = ap (length {A = ℕ}) (rows_front b.lines b.rows fit) in (
      short_front b.lines b.rows fit (rows_short b c.requires.0),
      omega (arith, domains.at, room_stays domains, domains_size b.domains b.cells, front, file_size_lem b, c.requires.1),
    )

pub trailer-requires : goal.trailer-requires
trailer-requires c =
    let b = c.args.board in
    let domains = domains_put (goal.at.trailer-requires c).After-domains in
    let rows = rw (rows_front b.lines b.rows (rows_fit (goal.at.trailer-requires c).Start)) at c.rows.ensures in
    let both = then domains rows in (
      (board_sound _ c.requires.0).sizes.cells_most,
      omega (arith, rows.at, domains.at, room_stays both, domains_size b.domains b.cells, file_size_lem b, c.requires.1),
    )

pub returns : goal.returns
unfolding file_of
returns c =
    let b = c.args.board in
    let domains = domains_put (goal.at.returns c).After-domains in
    let rows = rw (rows_front b.lines b.rows (rows_fit (goal.at.returns c).Start)) at c.rows.ensures in
    then (then domains rows) c.trailer.ensures
