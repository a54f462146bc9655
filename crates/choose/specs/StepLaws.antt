-- What each step of the choice adds to the best so far. Assumes nothing.
use Rattle.std.specs.Prelude.{None, ◌≡◌, refl, true, ℕ, zero, suc, ◌+◌, ◌*◌, ◌/◌, ◌%◌, ◌^◌, ◌≤◌, ◌<◌, eqb, length, get_or, take}
use Rattle.std.proofs.Common.{subst, sym, ap, ap₂, ◌∙◌, le_trans, arith, add-one, add_comm, mod-eq_of_lt, pow_pos}
use mathlib.Core.List.{List, [], flat_map}
use lib.Count.{ones, ones_in, ones_cat}
use Rattle.std.proofs.lemmas.Nat.{mod-pow-add, mod_below}
use Rattle.told.specs.Told.{when}
use Rattle.sizes.specs.Sizes.{values, row_cells, table_size}
use Rattle.sizes.specs.Sound.{SoundRow}
use Rattle.listing.specs.Listing.{keep, below, sum_over, onto}
use Rattle.listing.specs.Sums.{sum_nil, sum_below}
use Rattle.listing.specs.Places.{place_length, place_at, place_member}
use Rattle.listing.specs.Members.{flat_same, at_in}
use Rattle.counting.specs.Counting.{lists, listed, total as counted}
use Rattle.counting.proofs.Counts.{count_total}
use Rattle.counting.proofs.Domains.{listed_ones}
use Rattle.board.specs.declared.Row.{Row as Line}
use Rattle.board.specs.declared.Board.{Board}
use Rattle.board.specs.Board.{row_at}
use Rattle.board.specs.Sound.{SoundLine, SoundBoard}
use Rattle.settling.specs.Settling.{Row, ◌∈◌, Fits, Supported, gather}
use Rattle.settling.specs.Cells.{gather_length}
use Rattle.settling.specs.Boards.{row_with, row_of, rows_to, rows_of}
use Rattle.settling.proofs.BoardLaws.{row_fronts, sound_fits}
use Rattle.std.proofs.Math.Seq.{length-take-le}
use Rattle.layers.specs.Tables.{forward_table, backward_table}
use Rattle.layers.specs.TableLaws.{forward_length, backward_length, holds_onto}
use Rattle.beat.specs.declared.Ties.{Ties}
use Rattle.beat.specs.declared.Candidate.{Candidate as Cand}
use Rattle.choosing.specs.Choosing.{Candidate, Ties as Order, candidate, no_row, domain_at, of_place, of_row, candidates}
use Rattle.choosing.specs.Choosing as choosing
use Rattle.choosing.specs.Going.{Leader, nobody, through}
use Rattle.choosing.proofs.GoingLaws.{through_none, through_start, through_turn, through_end}
use Rattle.choosing.proofs.CandidateLaws.{of_value, place_several, place_few}
use Rattle.beat.specs.Beat.{ties_of, candidate_of, leader_of}
use Rattle.choose.specs.declared.best.Best.{Best}
use Rattle.choose.specs.declared.Tables.{Tables}
use Rattle.choose.specs.Steps.{SameRest, Ready, Kept, After}
use Rattle.choose.specs.AdviceLaws.{filled_kept}

-- ---- how many values a domain lists

bit_ones : (b : ℕ) → b < 2 → ones b ≡ when (eqb b 1) 1
unfolding ones ones_in
bit_ones zero h = refl
bit_ones (suc zero) h = refl
bit_ones (suc (suc b)) h = absurd (omega arith)

-- those below k
ones_below : (d k : ℕ) → ones (d % 2 ^ k) ≡ sum_over (λ v. when (lists d v) 1) (below k)
ones_below d zero = let none : d % 2 ^ 0 ≡ 0 = omega arith in ap ones none ∙ bit_ones 0 (omega arith) ∙ sym (sum_nil _)
ones_below d (suc k) =
    let bit = d / 2 ^ k % 2 in
    let rest = d % 2 ^ k in
    let parts : d % 2 ^ suc k ≡ bit * 2 ^ k + rest = ap (λ (n : ℕ). d % 2 ^ n) (sym (add-one k) ∙ add_comm k 1) ∙ mod-pow-add d 1 k in
    ap ones parts
    ∙ ones_cat k bit rest (mod_below d (2 ^ k) (pow_pos k))
    ∙ ap₂ ◌+◌ (bit_ones bit (omega arith)) (ones_below d k)
    ∙ add_comm _ _
    ∙ sym (sum_below (λ v. when (lists d v) 1) k)

pub ones_listed : (d : ℕ) → d < 2 ^ values → ones d ≡ length (listed d)
ones_listed d h = ap ones (sym (mod-eq_of_lt h)) ∙ ones_below d values ∙ sym (listed_ones d)

-- ---- the tables, as a loop goes on

pub kept_start : (t : Tables) → Kept t t
kept_start t = record { rooms = (refl, refl); forward = refl; backward = refl }

pub kept_turn : (old now new : Tables) → Kept old now → Kept now new → Kept old new
kept_turn old now new k l =
    record {
      rooms = (l.rooms.0 ∙ k.rooms.0, l.rooms.1 ∙ k.rooms.1);
      forward = l.forward ∙ k.forward;
      backward = l.backward ∙ k.backward;
    }

-- ---- the best so far, as a loop goes through lists

module _ (f : ℕ → List Candidate) (b : Best) where
  pub after_start : After b (flat_map f (below 0)) b
  after_start = record { same_ties = refl; leader = through_start (ties_of b.ties) f (leader_of b.leader) }

  pub after_turn : (n : ℕ) (m r : Best) → After b (flat_map f (below n)) m → After m (f n) r → After b (flat_map f (below (n + 1))) r
  after_turn n m r e q =
      record {
        same_ties = q.same_ties ∙ e.same_ties;
        leader = through_turn (ties_of b.ties) f (leader_of b.leader) n (leader_of m.leader) (leader_of r.leader) e.leader (rw e.same_ties at q.leader);
      }

  pub after_end : (n k : ℕ) (r : Best) → n ≤ k → k ≤ n → After b (flat_map f (below n)) r → After b (flat_map f (below k)) r
  after_end n k r l h e = let same : n ≡ k = omega arith in rw same at e

-- from none, it is what going through the list comes to
pub after_none : (ties : Ties) (b r : Best) (xs : List Candidate) → b.ties ≡ ties → b.leader ≡ None → After b xs r → leader_of r.leader ≡ through (ties_of ties) nobody xs
after_none ties b r xs e h a = rw (e, h) at a.leader

-- ---- the values of a place: n of them, too few to choose from, or gone through

module _ (o : Order) (b : Leader) (i : ℕ) (r : Row) (d : List ℕ) (p n : ℕ) (e : n ≡ length (listed (domain_at r d p))) where
  pub few_values : n < 2 → b ≡ through o b (of_place i r d p)
  few_values h = through_none o b ∙ ap (through o b) (place_few i r d p (omega arith))

  pub many_values : 2 ≤ n → (l : Leader) (v : ℕ) → v ≤ values → values ≤ v → l ≡ through o b (flat_map (of_value i r d p) (below v)) → l ≡ through o b (of_place i r d p)
  many_values h l v k m q = through_end o (of_value i r d p) b v values l k m q ∙ ap (through o b) (place_several i r d p (omega arith))

-- what they bring to the best so far
module _ (b : Best) (i : ℕ) (r : Row) (d : List ℕ) (p : ℕ) where
  pub few_after : length (listed (domain_at r d p)) < 2 → After b (of_place i r d p) b
  few_after h = record { same_ties = refl; leader = few_values (ties_of b.ties) (leader_of b.leader) i r d p _ refl h }

  pub many_after : 2 ≤ length (listed (domain_at r d p)) → (l : Best) → After b (flat_map (of_value i r d p) (below values)) l → After b (of_place i r d p) l
  many_after h l e =
      record {
        same_ties = e.same_ties;
        leader = many_values (ties_of b.ties) (leader_of b.leader) i r d p _ refl h (leader_of l.leader) values (omega arith) (omega arith) e.leader;
      }

-- ---- the code's candidate of a value

module _ (x : Cand) (i : ℕ) (r : Row) (d : List ℕ) (p v : ℕ) (e : candidate_of x ≡ candidate i r d p v) where
  -- where its value is listed it has a count above 0, and so the row a total
  pub candidate_live : Supported d r → p < length r.cells → v < values → (x.value < values) × (lists (domain_at r d p) x.value ≡ true → 0 < x.total)
  candidate_live supported l k =
      subst (λ (y : Candidate). (y.value < values) × (lists (domain_at r d p) y.value ≡ true → 0 < y.total)) (sym e)
      (k, λ listed. le_trans (supported p v l k listed) (count_total r.weights (gather d r.cells) r.low r.high p (omega (arith, gather_length d r.cells)) v k))

  pub candidate_brings : (b n : Best) → After b (keep (lists (domain_at r d p) x.value) (candidate_of x) []) n → After b (of_value i r d p v) n
  candidate_brings b n h = subst (λ (y : Candidate). After b (keep (lists (domain_at r d p) y.value) y []) n) e h

-- ---- a row whose domains were gathered, and its tables filled

module _ (r : Row) (d held part forward backward f g : List ℕ) (fits : Fits (length d) r) (sound : SoundRow r.weights held r.low r.high) where
  sound_part : part ≡ gather d r.cells → SoundRow r.weights part r.low r.high
  sound_part e =
      let same : length part ≡ length held = ap length e ∙ gather_length d r.cells ∙ sym fits.lengths ∙ sound.same in
      record { some = omega (arith, sound.some); most = omega (arith, sound.most); same = sound.same ∙ sym same; ordered = sound.ordered; limit = sound.limit }

  -- it is ready
  pub fill_ready : (total : ℕ) → Supported d r → part ≡ gather d r.cells
      → (total ≡ counted r.weights part r.low r.high)
      × ((f ≡ onto (forward_table r.weights part) forward) × (g ≡ onto (backward_table r.weights part r.low r.high) backward))
      → Ready r d part total f g
  fill_ready total supported e filled =
      record {
        fits = fits;
        supported = supported;
        part_is = e;
        total_is = filled.0 ∙ ap (λ (ds : List ℕ). counted r.weights ds r.low r.high) e;
        filled = record { sound = sound_part e; forwards = holds_onto _ forward f filled.1.0; backwards = holds_onto _ backward g filled.1.1 };
      }

  -- and the tables are kept
  pub fill_kept : table_size ≤ length forward → table_size ≤ length backward → part ≡ gather d r.cells
      → (f ≡ onto (forward_table r.weights part) forward) × (g ≡ onto (backward_table r.weights part r.low r.high) backward)
      → SameRest forward f × SameRest backward g
  fill_kept long wide e filled =
      let most = (sound_part e).most in (
        filled_kept _ forward f (length part) (forward_length r.weights part) most long filled.0,
        filled_kept _ backward g (length part) (backward_length r.weights part r.low r.high) most wide filled.1,
      )

-- the same of the front of a row's record
module _ (line : Line) (d part forward backward f g : List ℕ) (sound : SoundLine (length d) line) (n : line.len ≤ length line.names) (m : line.len ≤ length line.weights)
    (gathered : part ≡ gather d (take line.len line.names))
    (forwards : f ≡ onto (forward_table (take line.len line.weights) part) forward)
    (backwards : g ≡ onto (backward_table (take line.len line.weights) part line.low line.high) backward) where
  abbrev row : Row
  row = row_with (take line.len line.names) (take line.len line.weights) line.low line.high

  fronts : row ≡ row_of line
  fronts = row_fronts line n m

  fits_front : Fits (length d) row
  fits_front = rw fronts (sound_fits _ line sound)

  sound_front : SoundRow row.weights part line.low line.high
  sound_front =
      let long : length part ≡ line.len = ap length gathered ∙ gather_length d row.cells ∙ length-take-le line.len line.names n in
      record {
        some = omega (arith, sound.head.some);
        most = omega (arith, sound.head.most);
        same = length-take-le line.len line.weights m ∙ sym long;
        ordered = sound.head.ordered;
        limit = sound.head.limit;
      }

  pub line_ready : (total : ℕ) → Supported d (row_of line) → total ≡ counted row.weights part line.low line.high → Ready row d part total f g
  line_ready total supported e =
      let kept = subst (λ (r : Row). Supported d r) (sym fronts) supported in
      fill_ready row d part part forward backward f g fits_front sound_front total kept gathered (e, (forwards, backwards))

  pub line_kept : table_size ≤ length forward → table_size ≤ length backward → SameRest forward f × SameRest backward g
  line_kept long wide = fill_kept row d part part forward backward f g fits_front sound_front long wide gathered (forwards, backwards)

-- ---- the rows of a board's record

pub rows_candidates : (lines : List Line) (n : ℕ) (d : List ℕ) → flat_map (λ i. of_row i (row_of (row_at lines i)) d) (below n) ≡ candidates (rows_to lines n) d
unfolding candidates
rows_candidates lines n d =
    flat_same (λ i. of_row i (row_of (row_at lines i)) d) (λ i. of_row i (choosing.row_at (rows_to lines n) i) d) n
    (λ i l. ap (λ (r : Row). of_row i r d) (sym (place_at (λ k. row_of (row_at lines k)) n i no_row l)))
    ∙ ap (λ (m : ℕ). flat_map (λ i. of_row i (choosing.row_at (rows_to lines n) i) d) (below m)) (sym (place_length (λ k. row_of (row_at lines k)) n))

-- row i is one of them
pub row_in : (lines : List Line) (n i : ℕ) → i < n → row_of (row_at lines i) ∈ rows_to lines n
row_in lines n i l =
    rw (place_at (λ k. row_of (row_at lines k)) n i no_row l) at (at_in no_row (rows_to lines n) i (rw (place_length (λ k. row_of (row_at lines k)) n) l))

-- no row is longer than 10 cells
pub rows_short : (board : Board) → SoundBoard board → (r : Row) → r ∈ rows_of board → length r.cells ≤ row_cells
rows_short board s r m =
    let i = place_member _ board.rows r m in
    let line = row_at board.lines i.0 in
    rw i.2 (omega (arith, place_length (λ k. get_or line.names k 0) line.len, (s.lines i.0 i.1).head.most))
