-- `inner::count` meets its contract: what filled tables give for the value is its count. Assumes nothing.
use Rattle.row.specs.CellLaws.{count_there, countable}
use Rattle.row.proofs.inner.count.Goals as goal

pub new-requires : goal.new-requires
new-requires c =
    let p = c.requires in
    countable _ _ _ _ _ _ p.0 _ p.1

pub returns : goal.returns
returns c =
    let p = c.requires in
    let here = count_there _ _ _ _ _ _ p.0 _ p.1 _ p.2 in
    cc
