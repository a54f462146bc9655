-- No second answer fits the contract of any export, nor other contents of the room lent to it. Assumes nothing.
use mathlib.Core.Path.{refl, sym, ap₂, ◌∙◌}
use Rattle.told.specs.Alone.{NoSecondAnswer}
use Rattle.row.specs.Answers.{tables, struck_rooms}
use Rattle.advice.specs.Advising.{rooms}
use Rattle.search.specs.Finishing.{lent}
use Rattle.tanglepunt.proofs.tanglepunt_rank.Reads as rank
use Rattle.tanglepunt.proofs.tanglepunt_rank.Kinds as rank-kinds
use Rattle.tanglepunt.proofs.tanglepunt_total.Reads as total
use Rattle.tanglepunt.proofs.tanglepunt_total.Kinds as total-kinds
use Rattle.tanglepunt.proofs.tanglepunt_count.Reads as count
use Rattle.tanglepunt.proofs.tanglepunt_count.Kinds as count-kinds
use Rattle.tanglepunt.proofs.tanglepunt_strike.Reads as strike
use Rattle.tanglepunt.proofs.tanglepunt_strike.Kinds as strike-kinds
use Rattle.tanglepunt.proofs.tanglepunt_begin.Reads as begin
use Rattle.tanglepunt.proofs.tanglepunt_begin.Kinds as begin-kinds
use Rattle.tanglepunt.proofs.tanglepunt_read.Reads as read
use Rattle.tanglepunt.proofs.tanglepunt_read.Kinds as read-kinds
use Rattle.tanglepunt.proofs.tanglepunt_read_at.Reads as read_at
use Rattle.tanglepunt.proofs.tanglepunt_read_at.Kinds as read-at-kinds
use Rattle.tanglepunt.proofs.tanglepunt_board_counts.Reads as board-counts
use Rattle.tanglepunt.proofs.tanglepunt_board_counts.Kinds as board-counts-kinds
use Rattle.tanglepunt.proofs.tanglepunt_write.Reads as write
use Rattle.tanglepunt.proofs.tanglepunt_write.Kinds as write-kinds
use Rattle.tanglepunt.proofs.tanglepunt_advise.Reads as advise
use Rattle.tanglepunt.proofs.tanglepunt_advise.Kinds as advise-kinds
use Rattle.tanglepunt.proofs.tanglepunt_search.Reads as search-call
use Rattle.tanglepunt.proofs.tanglepunt_search.Kinds as search-kinds

-- calls that are lent no room
pub rank_alone : NoSecondAnswer 0 rank-kinds.ps rank-kinds.r rank.Post (λ κs e. tt {0})
rank_alone κs a x y e f p q = (p ∙ sym q, refl)

pub begin_alone : NoSecondAnswer 1 begin-kinds.ps begin-kinds.r begin.Post (λ κs e. tt {0})
begin_alone κs a x y e f p q = (p ∙ sym q, refl)

pub read_alone : NoSecondAnswer 1 read-kinds.ps read-kinds.r read.Post (λ κs e. tt {0})
read_alone κs a x y e f p q = (p ∙ sym q, refl)

pub read_at_alone : NoSecondAnswer 1 read-at-kinds.ps read-at-kinds.r read_at.Post (λ κs e. tt {0})
read_at_alone κs a x y e f p q = (p ∙ sym q, refl)

pub board_counts_alone : NoSecondAnswer 1 board-counts-kinds.ps board-counts-kinds.r board-counts.Post (λ κs e. tt {0})
board_counts_alone κs a x y e f p q = (p ∙ sym q, refl)

-- calls that are
pub total_alone : NoSecondAnswer 4 total-kinds.ps total-kinds.r total.Post (λ κs e. tables e.1.1.1.1.0.now e.1.1.1.1.1.0.now)
total_alone κs a x y e f p q = (p.0 ∙ sym q.0, p.1 ∙ sym q.1)

pub count_alone : NoSecondAnswer 4 count-kinds.ps count-kinds.r count.Post (λ κs e. tables e.1.1.1.1.1.1.0.now e.1.1.1.1.1.1.1.0.now)
count_alone κs a x y e f p q = (p.0 ∙ sym q.0, p.1 ∙ sym q.1)

pub strike_alone : NoSecondAnswer 4 strike-kinds.ps strike-kinds.r strike.Post (λ κs e. struck_rooms e.1.0.now (tables e.1.1.1.1.0.now e.1.1.1.1.1.0.now))
strike_alone κs a x y e f p q = (p.0 ∙ sym q.0, ap₂ struck_rooms (p.1.1 ∙ sym q.1.1) (p.1.0 ∙ sym q.1.0))

pub write_alone : NoSecondAnswer 1 write-kinds.ps write-kinds.r write.Post (λ κs e. e.1.0.now)
write_alone κs a x y e f p q = (p.0 ∙ sym q.0, p.1 ∙ sym q.1)

pub advise_alone : NoSecondAnswer 4 advise-kinds.ps advise-kinds.r advise.Post (λ κs e. rooms e.1.0.now e.1.1.0.now e.1.1.1.0.now)
advise_alone κs a x y e f p q = (p.0 ∙ sym q.0, p.1 ∙ sym q.1)

pub search_alone : NoSecondAnswer 6 search-kinds.ps search-kinds.r search-call.Post
    (λ κs e. lent e.1.0.now e.1.1.0.now e.1.1.1.0.now e.1.1.1.1.0.now e.1.1.1.1.1.0.now)
search_alone κs a x y e f p q = (p.0 ∙ sym q.0, p.1 ∙ sym q.1)
