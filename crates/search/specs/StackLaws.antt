-- The levels of the stack room, and the ways that a step can go. Assumes nothing.
use Rattle.std.specs.Prelude.{◌≡◌, Bool, true, false, ◌≢◌, eqb, Float, get_or, take, drop, replicate}
use Rattle.std.proofs.Math.Path.{refl, sym, ap, ap₂, subst}
use Rattle.std.proofs.Common.{◌∙◌, le_refl, add-one, eqb-true, eq-eqb, length-drop, take-append-drop, length-take-le, drop_at, take_at}
use mathlib.Core.List.{List, [], ◌∷◌, ◌++◌}
use Prim.Native.Nat.{ℕ, zero, suc, ◌+◌, ◌-◌, ◌*◌, ◌%◌, ◌^◌, ◌≤◌, ◌<◌}
use native.Mathlib.Omega.{arith}
use Rattle.std.proofs.lemmas.Bool.{eqb-false, not-true, not-false}
use Rattle.std.proofs.Math.ListN.{length}
use Rattle.std.proofs.lemmas.List.{length-replicate, take-append-le, drop-append-le}
use Rattle.std.proofs.lemmas.Nat.Bits.{bit_at-trailing_zeros}
use Rattle.std.specs.Int.{trailing_zeros, w32}
use Rattle.sizes.specs.Sizes.{values, board_cells, table_size, stack_size}
use Rattle.listing.specs.Places.{onto_late}
use Rattle.counting.proofs.StepLaws.{value_bit}
use Rattle.board.specs.declared.Board.{Board}
use Rattle.board.specs.Sound.{SoundBoard}
use Rattle.settling.specs.Settling.{Row, Domains, settle}
use Rattle.settling.proofs.Settles.{settle_length}
use Rattle.settling.specs.Boards.{rows_of}
use Rattle.settling.proofs.BoardLaws.{sound_accepted, rows_have_cells}
use Rattle.choose.specs.Advice.{cleared}
use Rattle.choose.specs.declared.Tables.{Tables}
use Rattle.choose.specs.AdviceLaws.{cleared_kept}
use Rattle.choose.specs.Steps.{SameRest, Kept}
use Rattle.advice.specs.Advising.{Cleared}
use Rattle.choosing.specs.Choosing.{Candidate, dead, settled, advise, to_lowest, choose}
use Rattle.searching.specs.Searching.{lowest, lowests, cut_to, removed, Found, nothing, one, more, searched, ends, choices_left}
use Rattle.searching.specs.Lowest.{lowest_first, lowest_none}
use Rattle.searching.specs.Promised.{Playable}
use Rattle.searching.specs.Levels.{search_all, open_cells}
use Rattle.searching.proofs.Looks.{Branches, open_most, look_of, advice_fits, branch_branches}
use Rattle.searching.proofs.Searches.{ends_enough, ends_more, left_more, ends_broke, left_broke, all_none, all_one, all_empty, all_filled, all_branch}
use Rattle.search.specs.declared.purse.Purse.{Purse}
use Rattle.search.specs.declared.Ending.{Ending as Verdict}
use Rattle.search.specs.declared.Ending.TheVariants as verdict
use Rattle.search.specs.Purse.{one_left, taken}
use Rattle.search.specs.Stack.{level, saved, levels, Roomy, trying, UnderWay, Same, Onward, Ended}

-- domains for the cells of a sound board are playable
pub sound_playable : (board : Board) → SoundBoard board → (d : List ℕ) → length d ≡ board.cells → Domains d → Playable (rows_of board) d
sound_playable board sound d n h = record { accepted = sound_accepted board sound d n h; some = rows_have_cells board sound }

-- ---- domains cut to their lowest values

-- a domain's lowest value is the place of its lowest bit; the empty domain's is 0
pub lowest_bit : (e : ℕ) → e ≢ 0 → e < 2 ^ values → 1 * 2 ^ trailing_zeros w32 e % 2 ^ values ≡ 2 ^ lowest e
lowest_bit e some small =
    let t = bit_at-trailing_zeros w32 e (omega arith) small in
    let same : lowest e ≡ trailing_zeros w32 e = lowest_first e (trailing_zeros w32 e) t.0 (eq-eqb _ 1 t.1) (λ u l q. absurd (omega (arith, eqb-true _ 1 q, t.2 u l))) in
    rw same (value_bit (trailing_zeros w32 e) t.0)

pub no_lowest_bit : (e : ℕ) → e ≡ 0 → 1 ≡ 2 ^ lowest e
no_lowest_bit e z = rw (z, lowest_none 0 (λ u l q. absurd (omega (arith, eqb-true _ 1 q))))

-- ---- the stack

below : (n j h : ℕ) (st xs : List ℕ) → n ≤ 64 → j < h → 64 * h ≤ length st
    → level n j (take (64 * h) st ++ xs) ≡ take n (drop (64 * j) (take (64 * h) st))
below n j h st xs l k m =
    let t = length-take-le (64 * h) st m in
    ap (take n) (drop-append-le (64 * j) (take (64 * h) st) xs (omega arith))
    ∙ take-append-le n (drop (64 * j) (take (64 * h) st)) xs (omega (arith, length-drop (64 * j) (take (64 * h) st)))

level_kept : (n j h : ℕ) (st x : List ℕ) → n ≤ 64 → j < h → 64 * h ≤ length st → level n j (saved st h x) ≡ level n j st
level_kept n j h st x l k m =
    below n j h st _ l k m ∙ sym (below n j h st (drop (64 * h) st) l k m) ∙ ap (level n j) (take-append-drop (64 * h) st)

levels_kept : (n j h : ℕ) (st x : List ℕ) → n ≤ 64 → j ≤ h → 64 * h ≤ length st → levels n j (saved st h x) ≡ levels n j st
unfolding levels
levels_kept n zero h st x l k m = refl
levels_kept n (suc j) h st x l k m = ap₂ (λ a b. a ∷ b) (level_kept n j h st x l k m) (levels_kept n j h st x l (omega arith) m)

level_saved : (h : ℕ) (st x : List ℕ) → 64 * h ≤ length st → level (length x) h (saved st h x) ≡ x
level_saved h st x m =
    ap (take (length x)) (drop_at (take (64 * h) st) _ (64 * h) (length-take-le (64 * h) st m))
    ∙ take_at x (drop (64 * h + length x) st) (length x) refl

levels_length : (n h : ℕ) (st : List ℕ) → length (levels n h st) ≡ h
unfolding levels
levels_length n zero st = refl
levels_length n (suc h) st = ap suc (levels_length n h st)

levels_saved : (n h : ℕ) (st x : List ℕ) → length x ≡ n → n ≤ 64 → 64 * h ≤ length st → levels n (h + 1) (saved st h x) ≡ x ∷ levels n h st
unfolding levels
levels_saved n h st x e l m =
    rw (add-one h) (ap₂ (λ a b. a ∷ b) (ap (λ i. level i h (saved st h x)) (sym e) ∙ level_saved h st x m) (levels_kept n h h st x l (le_refl h) m))

-- ---- a search under way

module _ {board : Board} {h : ℕ} {purse : Purse} {d stack : List ℕ} (way : UnderWay board h purse d stack) where
  abbrev rows : List Row
  rows = rows_of board

  abbrev left : List ℕ
  left = (settle (rows_of board) d).left

  playable : Playable rows d
  unfolding Roomy
  playable = way.roomy.0

  deep : h + open_cells d ≤ length d
  unfolding Roomy
  deep = omega (arith, way.roomy.2, levels_length (length d) h stack)

  small : length d ≤ board_cells
  small = omega (arith, way.cells, way.sound.sizes.cells_most)

  left_cells : length left ≡ length d
  left_cells = settle_length rows d

  -- levels in use are at most 64
  pub levels_most : h ≤ board_cells
  levels_most = omega (arith, deep, small)

  -- ---- an advice: where it is followed, where its value is removed, and then the levels in use

  abbrev first : Candidate → List ℕ
  first x = cut_to left x.cell x.value

  abbrev second : Candidate → List ℕ
  second x = removed left x.cell x.value

  abbrev both : Candidate → List (List ℕ)
  both x = first x ∷ second x ∷ levels (length d) h stack

  on_advice : (x : Candidate) (share : Float) → advise x share ≡ choose to_lowest rows left → search_all rows (trying h d stack) ≡ more 1 (search_all rows (both x))
  on_advice x share e = all_branch rows d (first x) (second x) (levels (length d) h stack) playable (look_of rows d (advise x share) e)

  -- ---- the last step: no filling, a filling, no choice left

  module _ (purse' : Purse) (d' : List ℕ) (p : purse' ≡ purse) where
    pub step_none : dead ≡ choose to_lowest rows left → h ≡ 0
        → Ended purse (search_all rows (trying h d stack)) verdict.None purse' d'
    unfolding levels choices_left
    step_none e z =
        let found : search_all rows (trying h d stack) ≡ nothing 0 =
        ap (λ (k : ℕ). search_all rows (trying k d stack)) z ∙ all_empty rows d [] (look_of rows d dead e) ∙ all_none rows in
        record {
          end = sym (ap (ends purse.left) found ∙ ends_enough purse.left (nothing 0) (omega arith));
          remains = ap (λ (q : Purse). q.left) p ∙ sym (ap (choices_left purse.left) found ∙ omega arith);
          purse_same = rw p;
        }

    pub step_solved : settled ≡ choose to_lowest rows left → d' ≡ lowests (left)
        → Ended purse (search_all rows (trying h d stack)) verdict.Solved purse' d'
    unfolding choices_left
    step_solved e q =
        let found : search_all rows (trying h d stack) ≡ one d' 0 =
        all_filled rows d (lowests left) (levels (length d) h stack) (look_of rows d settled e) ∙ ap (λ (f : List ℕ). one f 0) (sym q) in
        record {
          end = sym (ap (ends purse.left) found ∙ ends_enough purse.left (one d' 0) (omega arith));
          remains = ap (λ (q : Purse). q.left) p ∙ sym (ap (choices_left purse.left) found ∙ omega arith);
          purse_same = rw p;
        }

    pub step_spent : (x : Candidate) (share : Float) → advise x share ≡ choose to_lowest rows left → purse.left ≡ 0
        → Ended purse (search_all rows (trying h d stack)) verdict.Spent purse' d'
    step_spent x share e z =
        let found = on_advice x share e in
        record {
          end = sym (ap₂ ends z found ∙ ends_broke (search_all rows (both x)));
          remains = ap (λ (q : Purse). q.left) p ∙ z ∙ sym (ap₂ choices_left z found ∙ left_broke (search_all rows (both x)));
          purse_same = rw p;
        }

  -- ---- the advice is followed

  module _ (x : Candidate) (share : Float) (e : advise x share ≡ choose to_lowest rows left) where
    fewer : Branches rows d (first x) (second x)
    fewer = branch_branches rows d playable _ _ (look_of rows d (advise x share) e)

    level_free : h < board_cells
    level_free = omega (arith, deep, small, fewer.first_open)

    -- what saving a level asks
    pub may_save : (s : List ℕ) → s ≡ left
        → (length s ≤ board_cells) × (stack_size ≤ length stack) × (h < board_cells) × (x.cell < length s) × (x.value < values) × (2 ^ x.value ≤ get_or s x.cell 0)
    may_save s q =
        let fits = advice_fits rows d playable.accepted x share e in
        rw q (omega (arith, left_cells, small), way.stack_room, level_free, fits.0, fits.1, fits.2)

    pub step_on : (purse' : Purse) (d' stack' : List ℕ) → purse.left ≢ 0 → purse'.left ≡ purse.left - 1 → purse'.followed ≡ purse.followed + 1
        → d' ≡ first x → stack' ≡ saved stack h (second x)
        → Onward rows h purse d stack (h + 1) purse' d' stack'
    unfolding Roomy
    step_on purse' d' stack' z l m p q =
        let f : length d' ≡ length d = ap length p ∙ fewer.first_within.cells in
        let t : levels (length d') (h + 1) stack' ≡ second x ∷ levels (length d) h stack =
        rw (f, q) (levels_saved (length d) h stack (second x) fewer.second_within.cells small (omega (arith, way.stack_room, level_free))) in
        let found = on_advice x share e in
        let whole : search_all rows (trying (h + 1) d' stack') ≡ search_all rows (both x) = ap₂ (λ (y : List ℕ) (ys : List (List ℕ)). search_all rows (y ∷ ys)) p t in
        let o : purse'.left + 1 ≡ purse.left = omega arith in
        record {
          same = record {
            same_end = ap (ends purse'.left) whole ∙ sym (ends_more purse'.left 1 _) ∙ ap₂ ends o (sym found);
            same_left = ap (choices_left purse'.left) whole ∙ sym (left_more purse'.left 1 _) ∙ ap₂ choices_left o (sym found);
          };
          cells = f;
          roomy = rw (t, f) (
            subst (λ (y : List ℕ). Playable rows y) (sym p) fewer.first_playable,
            refl,
            omega (arith, ap open_cells p, fewer.first_open, way.roomy.2),
            (fewer.second_playable, fewer.second_within.cells, omega (arith, fewer.second_open, way.roomy.2), subst (λ (n : ℕ). Roomy rows n (levels (length d) h stack)) (sym f) way.roomy.3),
          );
          nearer = omega arith;
          purse_same = omega arith;
        }

-- ---- back to the last level saved

pub may_restore : {board : Board} {h : ℕ} {purse : Purse} {d stack : List ℕ} → UnderWay board h purse d stack
    → (s : List ℕ) → s ≡ (settle (rows_of board) d).left → h ≢ 0 → (length s ≤ board_cells) × (stack_size ≤ length stack) × (h - 1 < board_cells)
may_restore way s q z = (omega (arith, ap length q, left_cells way, small way), way.stack_room, omega (arith, levels_most way))

module _ {board : Board} {purse : Purse} {d stack : List ℕ} where
  pub step_back : (h : ℕ) → UnderWay board h purse d stack → (purse' : Purse) (d' : List ℕ) → purse' ≡ purse
      → dead ≡ choose to_lowest (rows_of board) (settle (rows_of board) d).left → h ≢ 0 → d' ≡ level (length d) (h - 1) stack
      → Onward (rows_of board) h purse d stack (h - 1) purse' d' stack
  unfolding levels Roomy
  step_back zero way purse' d' same e z p = absurd (z refl)
  step_back (suc h) way purse' d' same e z p =
      let k : suc h - 1 ≡ h = omega arith in
      let q : d' ≡ level (length d) h stack = p ∙ ap (λ (i : ℕ). level (length d) i stack) k in
      let r = way.roomy.3 in
      let f : length d' ≡ length d = ap length q ∙ r.1 in
      let l : purse'.left ≡ purse.left = ap (λ (y : Purse). y.left) same in
      let m : purse'.followed ≡ purse.followed = ap (λ (y : Purse). y.followed) same in
      let whole : search_all (rows_of board) (trying (suc h - 1) d' stack) ≡ search_all (rows_of board) (levels (length d) (suc h) stack) =
      rw (k, f) (ap (λ (y : List ℕ). search_all (rows_of board) (y ∷ levels (length d) h stack)) q) in
      let found = all_empty (rows_of board) d (levels (length d) (suc h) stack) (look_of (rows_of board) d dead e) in
      record {
        same = record { same_end = ap₂ ends l (whole ∙ sym found); same_left = ap₂ choices_left l (whole ∙ sym found) };
        cells = f;
        roomy = rw (k, f) (subst (λ (y : List ℕ). Playable (rows_of board) y) (sym q) r.0, refl, omega (arith, ap open_cells q, r.2), subst (λ (n : ℕ). Roomy (rows_of board) n (levels n h stack)) (sym f) r.3);
        nearer = omega arith;
        purse_same = omega arith;
      }

-- ---- the start

pub start_roomy : (rs : List Row) (d stack : List ℕ) → Playable rs d → Roomy rs (length d) (trying 0 d stack)
unfolding Roomy levels
start_roomy rs d stack ok = (ok, refl, omega (arith, open_most d), tt)

pub start_same : (rs : List Row) (left : ℕ) (d stack : List ℕ) → Same left (search_all rs (trying 0 d stack)) left (searched rs d)
unfolding levels
start_same rs left d stack = record { same_end = ap (ends left) (all_one rs d); same_left = ap (choices_left left) (all_one rs d) }

pub same_trans : (l m n : ℕ) (a b c : Found) → Same l a m b → Same m b n c → Same l a n c
same_trans l m n a b c p q = record { same_end = p.same_end ∙ q.same_end; same_left = p.same_left ∙ q.same_left }

pub ended_trans : (held purse purse' : Purse) (now before : Found) (v : Verdict) (d' : List ℕ) → Same held.left now purse.left before
    → held.left + held.followed ≡ purse.left + purse.followed → Ended held now v purse' d' → Ended purse before v purse' d'
ended_trans held purse purse' now before v d' same sum e =
    record { end = e.end ∙ same.same_end; remains = e.remains ∙ same.same_left; purse_same = e.purse_same ∙ sum }

-- ---- tables, cleared by one step after others that kept them past what they need

rest_after : (t new : List ℕ) → table_size ≤ length t → new ≡ cleared t → SameRest t new
unfolding cleared
rest_after t new room e =
    let n = length-replicate {A = ℕ} table_size 0 in
    ap (drop table_size) e ∙ onto_late (replicate table_size 0) t 0 table_size (omega arith) (omega arith)

pub kept_after : (old now new : Tables) → Kept old now → Cleared now new → Kept old new
kept_after old now new k c =
    record {
      rooms = (c.rooms_same.0 ∙ k.rooms.0, c.rooms_same.1 ∙ k.rooms.1);
      forward = rest_after _ _ now.rooms.0 c.forward_is ∙ k.forward;
      backward = rest_after _ _ now.rooms.1 c.backward_is ∙ k.backward;
    }

pub cleared_after : (old now new : Tables) → Kept old now → Cleared now new → Cleared old new
cleared_after old now new k c =
    record {
      rooms_same = (c.rooms_same.0 ∙ k.rooms.0, c.rooms_same.1 ∙ k.rooms.1);
      forward_is = cleared_kept _ _ _ k.forward c.forward_is;
      backward_is = cleared_kept _ _ _ k.backward c.backward_is;
    }

-- ---- the choosing step

-- what it did where it says that no choice was left, and where it says that one was
pub none_left : (purse purse' : Purse) (t : Bool) → (purse' ≡ taken purse) × (t ≡ one_left purse) → t ≡ false → (purse.left ≡ 0) × (purse' ≡ purse)
none_left purse purse' t w q =
    let z : eqb purse.left 0 ≡ true = not-false (eqb purse.left 0) (sym w.1 ∙ q) in
    (eqb-true purse.left 0 z, w.0 ∙ rw z)

pub one_left_lem : (purse purse' : Purse) (t : Bool) → (purse' ≡ taken purse) × (t ≡ one_left purse) → t ≡ true
    → (purse.left ≢ 0) × (purse'.left ≡ purse.left - 1) × (purse'.followed ≡ purse.followed + 1)
one_left_lem purse purse' t w q =
    let f : eqb purse.left 0 ≡ false = not-true (eqb purse.left 0) (sym w.1 ∙ q) in
    let p : purse' ≡ record { left = purse.left - 1; followed = purse.followed + 1 } = w.0 ∙ rw f in
    (eqb-false purse.left 0 f, ap (λ (y : Purse). y.left) p, ap (λ (y : Purse). y.followed) p)
