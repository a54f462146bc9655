-- One look at a board: where it sees no filling there is none, the one that it sees is one, and its branches list fewer values and have every
-- filling between them. Assumes nothing.
use Rattle.std.specs.Prelude.{◌≡◌, true, ◌⊎◌, List, [], ◌∷◌, map, ℕ, zero, suc, ◌+◌, ◌-◌, ◌^◌, ◌≤◌, ◌<◌, ltb, Float, length, get_or, set}
use Rattle.std.proofs.Math.Path.{refl, ap}
use Rattle.std.proofs.Common.{sym, ◌∙◌, subst, inl, inr, le_of_suc-le-suc, le_refl, arith, ltb-true, lt-ltb, length-set, get_or-set_other}
use Rattle.std.proofs.lemmas.Simd.{map-map}
use Rattle.std.proofs.Math.Decide.{ℕ_discrete}
use Rattle.std.proofs.lemmas.List.{length-map}
use Rattle.told.specs.Told.{when}
use Rattle.sizes.specs.Sizes.{values}
use Rattle.listing.specs.Sums.{when_grows, never}
use Rattle.listing.specs.Members.{at_in}
use Rattle.listing.specs.Places.{map_at}
use Rattle.counting.specs.Counting.{lists, listed, size, good, NoNewValue}
use Rattle.counting.proofs.Domains.{ones_most, empty_lists}
use Rattle.counting.proofs.Cuts.{power_le, cut_within, rest_within, cut_has, rest_has, cut_small, rest_small, cut_ones, rest_ones, set_within, size_set}
use Rattle.counting.proofs.Over.{filling_length, filling_at, filling_by}
use Rattle.settling.specs.Settling.{Row, ◌∈◌, Loose, Accepted, gather, settle, BoardFilling}
use Rattle.settling.specs.Families.{within_trans, set_domains, size_grows}
use Rattle.settling.specs.Fillings.{filling_set}
use Rattle.settling.specs.Cells.{gather_length, gather_at, gather_only}
use Rattle.settling.proofs.Demand3.{largest_family, left_accepted, value_in_filling, no_filling_lost, no_filling_new, loose_cell}
use Rattle.choosing.specs.Choosing.{Candidate, Choice, dead, settled, advise, to_lowest, choose, no_row, row_at}
use Rattle.choosing.specs.Promised.{SomeEmpty, NoneEmpty, Single, Open, Promised}
use Rattle.choosing.proofs.ChoiceLaws.{settled_promises}
use Rattle.searching.specs.Searching.{lowest, lowests, cut_to, removed}
use Rattle.searching.specs.Promised.{ShowsFilling, Playable}
use Rattle.searching.specs.Levels.{open_cells}
use Rattle.searching.specs.Lowest.{lowest_listed, only_lowest}

-- ---- one look at domains

-- what is seen once the domains are settled: no filling; a filling; or an advice, with the domains where it is followed and those where its value is
-- removed
pub data Look : Type 0 where
  empty : Look
  filled : List ℕ → Look
  branch : List ℕ → List ℕ → Look

abbrev pub seen : Choice → List ℕ → Look
seen dead s = empty
seen settled s = filled (lowests s)
seen (advise x share) s = branch (cut_to s x.cell x.value) (removed s x.cell x.value)

unfoldable pub look : List Row → List ℕ → Look
look rs d = let s = (settle rs d).left in seen (choose to_lowest rs s) s

-- ---- cells with two or more values

abbrev many : ℕ → ℕ
many n = when (ltb 1 n) 1

many_grows : (m n : ℕ) → m ≤ n → many m ≤ many n
many_grows m n h =
    when_grows (ltb 1 m) (ltb 1 n) 1 1 (λ e. let k = ltb-true 1 m e in lt-ltb 1 n (omega arith)) (le_refl 1)

many_one : (n : ℕ) → n ≡ 1 → many n ≡ 0
many_one n e = rw e

many_two : (n : ℕ) → 2 ≤ n → many n ≡ 1
many_two n h = let q = lt-ltb 1 n h in rw q

pub open_most : (d : List ℕ) → open_cells d ≤ length d
unfolding open_cells
open_most [] = omega arith
open_most (e ∷ d) = omega (arith, when_grows (ltb 1 (length (listed e))) true 1 1 (λ q. refl) (le_refl 1), open_most d)

open_grows : (d e : List ℕ) → NoNewValue d e → open_cells d ≤ open_cells e
unfolding open_cells
open_grows [] e h = omega arith
open_grows (x ∷ d) [] h = omega (arith, h.cells)
open_grows (x ∷ d) (y ∷ e) h =
    omega (arith, many_grows _ _ (ones_most x y (h.values_there 0)), open_grows d e (record { cells = omega (arith, h.cells); values_there = λ c. h.values_there (suc c) }))

open_set : (d : List ℕ) (c x : ℕ) → c < length d → open_cells (set d c x) + many (length (listed (get_or d c 0))) ≡ open_cells d + many (length (listed x))
unfolding open_cells
open_set [] c x l = absurd (omega arith)
open_set (y ∷ d) zero x l = omega arith
open_set (y ∷ d) (suc c) x l = omega (arith, open_set d c x (le_of_suc-le-suc l))

-- ---- what branches are

pub record Branches (rs : List Row) (d a b : List ℕ) : Type 0 where
  pub first_playable : Playable rs a
  pub second_playable : Playable rs b
  pub first_within : NoNewValue a d
  pub second_within : NoNewValue b d
  pub first_less : size a < size d
  pub second_less : size b < size d
  pub first_open : open_cells a < open_cells d
  pub second_open : open_cells b ≤ open_cells d
  pub either : (f : List ℕ) → BoardFilling rs d f → BoardFilling rs a f ⊎ BoardFilling rs b f
  pub first_loose : (c : ℕ) → Loose rs c → get_or a c 0 ≡ get_or d c 0
  pub second_loose : (c : ℕ) → Loose rs c → get_or b c 0 ≡ get_or d c 0

module _ (rs : List Row) where
  abbrev left : List ℕ → List ℕ
  left d = (settle rs d).left

  -- what a look leads to
  abbrev Led : List ℕ → Look → Type 0
  Led d empty = SomeEmpty (left d)
  Led d (filled e) = NoneEmpty (left d) × Single rs (left d) × (e ≡ lowests (left d))
  Led d (branch a b) = (x : Candidate) × Open rs (left d) x × (a ≡ cut_to (left d) x.cell x.value) × (b ≡ removed (left d) x.cell x.value)

  led : (d : List ℕ) → Accepted rs d → Led d (look rs d)
  unfolding look
  led d ok = go (choose to_lowest rs (left d)) (settled_promises to_lowest rs d ok)
    where
      go : (k : Choice) → Promised to_lowest rs (left d) k → Led d (seen k (left d))
      go dead p = p
      go settled p = (p.0, p.1, refl)
      go (advise x share) p = (x, p.1, refl, refl)

  led_by : (d : List ℕ) → Accepted rs d → (x : Look) → look rs d ≡ x → Led d x
  led_by d ok x e = subst (Led d) e (led d ok)

  -- what is chosen is what is seen
  pub look_of : (d : List ℕ) (k : Choice) → k ≡ choose to_lowest rs (left d) → look rs d ≡ seen k (left d)
  unfolding look
  look_of d k e = ap (λ (x : Choice). seen x (left d)) (sym e)

  -- an advice names a cell, and a value that the cell lists
  pub advice_fits : (d : List ℕ) → Accepted rs d → (x : Candidate) (share : Float) → advise x share ≡ choose to_lowest rs (left d)
      → (x.cell < length (left d)) × (x.value < values) × (2 ^ x.value ≤ get_or (left d) x.cell 0)
  advice_fits d ok x share e =
      let at = (rw (sym e) at (settled_promises to_lowest rs d ok)).1 in
      (at.cell_there, at.value_small, power_le (get_or (left d) x.cell 0) x.value ((left_accepted rs d ok).domains x.cell) at.value_small at.value_listed)

  module _ (d : List ℕ) (ok : Playable rs d) where
    accepted : Accepted rs (left d)
    accepted = left_accepted rs d ok.accepted

    -- where a domain is empty there is no filling
    pub empty_none : look rs d ≡ empty → (f : List ℕ) → BoardFilling rs d f → ⊥
    empty_none e f g =
        let w = led_by d ok.accepted empty e in
        let h = filling_at (left d) f (no_filling_lost rs d ok.accepted f g).filling w.0 w.1 in
        never (sym (empty_lists (get_or f w.0 0)) ∙ (rw w.2 at h.1))

    -- where each cell in a row has one value, the lowest values are a filling
    module _ (full : NoneEmpty (left d)) (single : Single rs (left d)) where
      low : (c : ℕ) → c < length (left d) → (lowest (get_or (left d) c 0) < values) × (lists (get_or (left d) c 0) (lowest (get_or (left d) c 0)) ≡ true)
      low c l = lowest_listed (get_or (left d) c 0) (accepted.domains c) (full c l)

      lows_good : (r : Row) → r ∈ rs → good r.weights r.low r.high (gather (map lowest (left d)) r.cells) ≡ true
      lows_good r m =
          let fits = accepted.rows r m in
          let v = low (get_or r.cells 0 0) (fits.inside 0 (ok.some r m)) in
          let w = value_in_filling rs d ok.accepted r m 0 (lowest (get_or (left d) (get_or r.cells 0 0) 0)) (ok.some r m) v.0 v.1 in
          let same : w.0 ≡ gather (map lowest (left d)) r.cells =
          gather_only (map lowest (left d)) r.cells w.0 (filling_length (gather (left d) r.cells) w.0 w.1.filling ∙ gather_length (left d) r.cells) (λ p l.
          let h = filling_at (gather (left d) r.cells) w.0 w.1.filling p (omega (arith, gather_length (left d) r.cells)) in
          only_lowest (get_or (left d) (get_or r.cells p 0) 0) (get_or w.0 p 0) (single r m p l) h.0 (rw (gather_at (left d) r.cells p l) at h.1)
          ∙ sym (map_at lowest 0 0 (left d) (get_or r.cells p 0) (fits.inside p l))) in
          rw same at w.1.is_good

      lows : BoardFilling rs (left d) (map lowest (left d))
      lows =
          record {
            filling = filling_by (left d) (map lowest (left d)) (length-map (left d) lowest) (λ p l. rw (map_at lowest 0 0 (left d) p l) (low p l));
            is_good = lows_good;
          }

    pub filled_shows : (e : List ℕ) → look rs d ≡ filled e → ShowsFilling rs d e
    filled_shows e q =
        let w = led_by d ok.accepted (filled e) q in
        let f = lows w.0 w.1 in
        record {
          taken = map lowest (left d);
          filling = no_filling_new rs d ok.accepted _ f;
          shown = w.2 ∙ sym (map-map (λ v. 2 ^ v) lowest (left d));
        }

    -- a cell in no row takes its lowest value
    pub filled_loose : (e : List ℕ) → look rs d ≡ filled e → (c : ℕ) → c < length d → Loose rs c → get_or e c 0 ≡ 2 ^ lowest (get_or d c 0)
    filled_loose e q c l h =
        let w = led_by d ok.accepted (filled e) q in
        ap (λ (t : List ℕ). get_or t c 0) w.2
        ∙ map_at (λ x. 2 ^ lowest x) 0 0 (left d) c (omega (arith, (largest_family rs d ok.accepted).within.cells))
        ∙ ap (λ (x : ℕ). 2 ^ lowest x) (loose_cell rs d ok.accepted c h)

    -- ---- the branches of an advice

    module _ (x : Candidate) (at : Open rs (left d) x) where
      here : ℕ
      here = get_or (left d) x.cell 0

      -- one of them: a new domain at the cell, which lists no new value and is not too large
      playable : (y : ℕ) → y < 2 ^ values → Playable rs (set (left d) x.cell y)
      playable y s =
          record {
            accepted = record {
              rows = λ r m. rw (length-set (left d) x.cell y) (accepted.rows r m);
              domains = set_domains (left d) x.cell y at.cell_there s accepted.domains;
            };
            some = ok.some;
          }

      loose : (y c : ℕ) → Loose rs c → get_or (set (left d) x.cell y) c 0 ≡ get_or d c 0
      loose y c h =
          get_or-set_other (left d) x.cell c y 0
          (λ e. h (row_at rs x.row) (at_in no_row rs x.row at.row_there) (at.place, at.in_row, sym at.cell_is ∙ sym e))
          ∙ loose_cell rs d ok.accepted c h

      branches : Branches rs d (cut_to (left d) x.cell x.value) (removed (left d) x.cell x.value)
      branches =
          let e = get_or (left d) x.cell 0 in
          let v = x.value in
          let small = accepted.domains x.cell in
          let fits = at.value_small in
          let there = at.value_listed in
          let w = (largest_family rs d ok.accepted).within in
          let l = at.cell_there in
          let first = set_within (left d) x.cell (2 ^ x.value) l (cut_within e v small fits there) in
          let second = set_within (left d) x.cell (get_or (left d) x.cell 0 - 2 ^ x.value) l (rest_within e v small fits there) in
          let less = size_grows (left d) d w in
          let fewer = open_grows (left d) d w in
          let cut = cut_ones e v small fits there in
          let rest = rest_ones e v small fits there in
          record {
            first_playable = playable (2 ^ x.value) (cut_small e v small fits there);
            second_playable = playable (get_or (left d) x.cell 0 - 2 ^ x.value) (rest_small e v small fits there);
            first_within = within_trans first w;
            second_within = within_trans second w;
            first_less = omega (arith, size_set (left d) x.cell (2 ^ x.value) l, at.several);
            second_less = omega (arith, size_set (left d) x.cell (get_or (left d) x.cell 0 - 2 ^ x.value) l);
            first_open = omega (arith, open_set (left d) x.cell (2 ^ x.value) l, many_two _ at.several, many_one _ cut);
            second_open = omega (arith, open_grows _ (left d) second);
            either = λ f g. parts f (no_filling_lost rs d ok.accepted f g) (ℕ_discrete (get_or f x.cell 0) x.value);
            first_loose = loose (2 ^ x.value);
            second_loose = loose (get_or (left d) x.cell 0 - 2 ^ x.value);
          }
        where
          parts : (f : List ℕ) → BoardFilling rs (left d) f → Dec (get_or f x.cell 0 ≡ x.value)
              → BoardFilling rs (cut_to (left d) x.cell x.value) f ⊎ BoardFilling rs (removed (left d) x.cell x.value) f
          parts f g (yes q) =
              inl (filling_set rs (left d) f x.cell (2 ^ x.value) at.cell_there g
              (rw q (cut_has (get_or (left d) x.cell 0) x.value (accepted.domains x.cell) at.value_small at.value_listed)))
          parts f g (no n) =
              let h = filling_at (left d) f g.filling x.cell at.cell_there in
              inr (filling_set rs (left d) f x.cell (get_or (left d) x.cell 0 - 2 ^ x.value) at.cell_there g
              (rest_has (get_or (left d) x.cell 0) x.value (accepted.domains x.cell) at.value_small at.value_listed (get_or f x.cell 0) h.0 h.1 n))

    pub branch_branches : (a b : List ℕ) → look rs d ≡ branch a b → Branches rs d a b
    branch_branches a b e =
        let w = led_by d ok.accepted (branch a b) e in
        subst (λ (y : List ℕ). Branches rs d y b) (sym w.2) (
        subst (λ (y : List ℕ). Branches rs d (cut_to (left d) w.0.cell w.0.value) y) (sym w.3) (branches w.0 w.1))
