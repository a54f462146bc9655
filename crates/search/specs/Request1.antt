-- Request R-1, said of the call: what its answer means and what it leaves, for every file of bytes that is not refused. Assumes nothing.
-- n is the number of choices given.
use Rattle.std.specs.Prelude.{◌≡◌, refl, ◌≢◌, ℕ, zero, suc, ◌+◌, ◌*◌, ◌^◌, ◌≤◌, ◌<◌}
use Rattle.std.proofs.Math.Path.{sym, ap}
use Rattle.std.proofs.Common.{◌∙◌, arith}
use mathlib.Core.List.{List}
use Rattle.std.proofs.Math.Decide.{dec_lt}
use Rattle.std.proofs.Math.ListN.{length, get_or, take, get_or-eq_default}
use Rattle.std.proofs.lemmas.List.{length-map}
use Rattle.told.specs.Told.{Told, refused, says, answer, leave}
use Rattle.told.proofs.ToldLaws.{neither}
use Rattle.sizes.specs.Sizes.{values, board_cells}
use Rattle.listing.specs.Listing.{onto}
use Rattle.listing.specs.Places.{place_length, place_at, onto_take}
use Rattle.board.specs.BoardLaws.{filled_at}
use Rattle.counting.proofs.Over.{filling_length}
use Rattle.reader.specs.File.{cells_in, domain_in, board_in}
use Rattle.reader.specs.Reading.{file_refuses}
use Rattle.settling.specs.Settling.{Row, Loose, Domains, BoardFilling}
use Rattle.settling.specs.Boards.{rows_of}
use Rattle.advice.specs.Advising.{domains_of, settled_of}
use Rattle.advice.specs.StepLaws.{read_is_sound, left_length}
use Rattle.searching.specs.Searching.{lowest, needed, Ending, solved, none, spent, choices_left}
use Rattle.searching.specs.Promised.{ShowsFilling, Playable}
use Rattle.searching.proofs.Request1 as board
use Rattle.search.specs.Finishing.{Word, it_is_solved, there_is_none, it_is_spent, word_of, domains_after, found_on, end_of, needed_on, lent_refuses, search_refuses, search_says, Lent, search_leaves}
use Rattle.search.specs.StackLaws.{sound_playable}

-- ---- words and endings

-- a word is the word of one ending only
solved_by : (x : Ending) → word_of x ≡ it_is_solved → (s : List ℕ) → x ≡ solved (domains_after x s)
solved_by (solved e) q s = refl
solved_by none q s = let z : ◌≡◌ {A = ℕ} 0 1 = cc in absurd (omega arith)
solved_by spent q s = let z : ◌≡◌ {A = ℕ} 0 1 = cc in absurd (omega arith)

none_by : (x : Ending) → word_of x ≡ there_is_none → x ≡ none
none_by (solved e) q = let z : ◌≡◌ {A = ℕ} 0 1 = cc in absurd (omega arith)
none_by none q = refl
none_by spent q = let z : ◌≡◌ {A = ℕ} 0 1 = cc in absurd (omega arith)

spent_by : (x : Ending) → word_of x ≡ it_is_spent → x ≡ spent
spent_by (solved e) q = let z : ◌≡◌ {A = ℕ} 0 1 = cc in absurd (omega arith)
spent_by none q = let z : ◌≡◌ {A = ℕ} 0 1 = cc in absurd (omega arith)
spent_by spent q = refl

settled_by : (x : Ending) → word_of x ≢ it_is_solved → (s : List ℕ) → domains_after x s ≡ s
settled_by (solved e) q s = absurd (q refl)
settled_by none q s = refl
settled_by spent q s = refl

abbrev said_of : Ending → Told Word
said_of x = says (word_of x)

abbrev word_in : Told Word → Word
word_in (says w) = w
word_in (refused n) = it_is_spent

-- ---- whatever the file and the rooms, no more choices are left than were given

left_by : (z n : ℕ) (held new : Lent) → held.choices ≤ n → new.choices ≤ n → (leave z held new).choices ≤ n
left_by zero n held new p q = q
left_by (suc z) n held new p q = p

pub left_most : (file room stack forward backward : List ℕ) (n : ℕ) → (search_leaves file n room stack forward backward).choices ≤ n
left_most file room stack forward backward n = left_by (search_refuses file room stack forward backward) n _ _ (omega arith) (omega arith)

-- ---- a file that is not refused holds a board that can be searched

-- each entry is a byte
abbrev pub Bytes : List ℕ → Type 0
Bytes file = (i : ℕ) → get_or file i 0 < 256

module _ (file : List ℕ) (bytes : Bytes file) where
  domain_here : (c : ℕ) → c < cells_in file → get_or (domains_of (board_in file)) c 0 ≡ domain_in file c
  unfolding board_in
  domain_here c l = place_at _ (cells_in file) c 0 l ∙ filled_at (domain_in file) 0 (cells_in file) board_cells c 0 l

  domain_past : (c : ℕ) → cells_in file ≤ c → get_or (domains_of (board_in file)) c 0 ≡ 0
  unfolding board_in
  domain_past c l = get_or-eq_default (domains_of (board_in file)) 0 {n = c} (omega (arith, place_length (λ k. get_or (board_in file).domains k 0) (cells_in file)))

  file_domains : Domains (domains_of (board_in file))
  file_domains c = go (dec_lt c (cells_in file))
    where
      go : Dec (c < cells_in file) → get_or (domains_of (board_in file)) c 0 < 2 ^ values
      go (yes l) = rw (domain_here c l) (omega (arith, bytes (4 * c), bytes (4 * c + 1), bytes (4 * c + 2), bytes (4 * c + 2 + 1)))
      go (no l) = rw (domain_past c (omega arith)) (omega arith)

  pub file_playable : file_refuses file ≡ 0 → Playable (rows_of (board_in file)) (domains_of (board_in file))
  file_playable z =
      sound_playable (board_in file) (read_is_sound file (board_in file) z refl) (domains_of (board_in file)) (place_length _ (board_in file).cells) file_domains

-- ---- the call

module _ (file room stack forward backward : List ℕ) (bytes : Bytes file) (accepted : search_refuses file room stack forward backward ≡ 0) where
  -- the board, what the call says with n choices given, what it leaves, and the domains at the front of the room
  abbrev pub rows : List Row
  rows = rows_of (board_in file)

  abbrev pub domains : List ℕ
  domains = domains_of (board_in file)

  abbrev pub told : ℕ → Told Word
  told n = search_says file n room stack forward backward

  abbrev pub left : ℕ → Lent
  left n = search_leaves file n room stack forward backward

  abbrev pub front : ℕ → List ℕ
  front n = take (board_in file).cells (left n).room

  playable : Playable (rows_of (board_in file)) (domains_of (board_in file))
  playable = file_playable file bytes (neither (lent_refuses (length forward) (length backward) (length room) (length stack)) (file_refuses file) accepted).1

  -- the word said, by the ending
  says_word : (n : ℕ) → told n ≡ said_of (end_of (board_in file) n)
  says_word n = ap (λ (z : ℕ). answer z (word_of (end_of (board_in file) n))) accepted

  word : (n : ℕ) (w : Word) → told n ≡ says w → word_of (end_of (board_in file) n) ≡ w
  word n w q = ap word_in (sym (says_word n) ∙ q)

  -- the room and the choices left
  room_is : (n : ℕ) → (left n).room ≡ onto (domains_after (end_of (board_in file) n) (settled_of (board_in file)).left) room
  room_is n = rw accepted

  choices_are : (n : ℕ) → (left n).choices ≡ choices_left n (found_on (board_in file))
  unfolding choices_left found_on needed
  choices_are n = rw accepted

  after : ℕ → List ℕ
  after n = domains_after (end_of (board_in file) n) (settled_of (board_in file)).left

  front_is : (n : ℕ) → length (after n) ≡ (board_in file).cells → front n ≡ after n
  unfolding after
  front_is n l = ap (take (board_in file).cells) (room_is n) ∙ ap (λ (k : ℕ). take k (onto (after n) room)) (sym l) ∙ onto_take (after n) room

  solved_after : (n : ℕ) → told n ≡ says it_is_solved → end_of (board_in file) n ≡ solved (after n)
  unfolding after
  solved_after n q = solved_by (end_of (board_in file) n) (word n it_is_solved q) (settled_of (board_in file)).left

  shown : (n : ℕ) → told n ≡ says it_is_solved → ShowsFilling rows domains (after n)
  unfolding found_on
  shown n q = board.solved_is_filling rows domains playable n (after n) (solved_after n q)

  solved_front : (n : ℕ) → told n ≡ says it_is_solved → front n ≡ after n
  solved_front n q =
      let f = shown n q in
      front_is n (
      ap length f.shown ∙ length-map f.taken (λ v. 2 ^ v)
      ∙ filling_length domains f.taken f.filling.filling ∙ place_length (λ k. get_or (board_in file).domains k 0) (board_in file).cells)

  -- ---- what an answer means, with any number of choices

  -- It answers Solved with a filling: the domains then at the front of the room show one of the board as read,
  pub solved_is_filling : (n : ℕ) → told n ≡ says it_is_solved → ShowsFilling rows domains (front n)
  solved_is_filling n q = rw (solved_front n q) (shown n q)

  -- in which a cell in no row takes its lowest value;
  pub loose_lowest : (n : ℕ) → told n ≡ says it_is_solved → (c : ℕ) → c < (board_in file).cells → Loose rows c → get_or (front n) c 0 ≡ 2 ^ lowest (get_or domains c 0)
  unfolding found_on
  loose_lowest n q c l free =
      ap (λ (d : List ℕ). get_or d c 0) (solved_front n q)
      ∙ board.loose_lowest rows domains playable n (after n) (solved_after n q) c (omega (arith, place_length (λ k. get_or (board_in file).domains k 0) (board_in file).cells)) free

  -- None only where there is none;
  pub none_means_none : (n : ℕ) → told n ≡ says there_is_none → (f : List ℕ) → BoardFilling rows domains f → ⊥
  unfolding found_on
  none_means_none n q = board.none_means_none rows domains playable n (none_by (end_of (board_in file) n) (word n there_is_none q))

  -- and Spent exactly when the search needs more choices than were given.
  pub spent_needs : (n : ℕ) → told n ≡ says it_is_spent → n < needed_on (board_in file)
  unfolding found_on
  spent_needs n q = board.spent_needs rows domains playable n (spent_by (end_of (board_in file) n) (word n it_is_spent q))

  pub needs_spent : (n : ℕ) → n < needed_on (board_in file) → told n ≡ says it_is_spent
  unfolding found_on
  needs_spent n h = says_word n ∙ ap said_of (board.needs_spent rows domains playable n h)

  -- Where it isn't Solved, the room has the board's settled domains before any choice.
  pub else_settled : (n : ℕ) → told n ≢ says it_is_solved → front n ≡ (settled_of (board_in file)).left
  unfolding after
  else_settled n q =
      let s = settled_by (end_of (board_in file) n) (λ e. q (says_word n ∙ ap says e)) (settled_of (board_in file)).left in
      front_is n (ap length s ∙ left_length (board_in file)) ∙ s

  -- ---- If this search needs no more choices than were given, Solved comes exactly when a filling exists and None when none does.

  module _ (n : ℕ) (enough : needed_on (board_in file) ≤ n) where
    pub enough_solved : (f : List ℕ) → BoardFilling rows domains f → told n ≡ says it_is_solved
    unfolding found_on
    enough_solved f g = says_word n ∙ ap said_of (board.enough_solved rows domains playable n enough f g).1

    pub enough_none : ((f : List ℕ) → BoardFilling rows domains f → ⊥) → told n ≡ says there_is_none
    unfolding found_on
    enough_none h = says_word n ∙ ap said_of (board.enough_none rows domains playable n enough h)

  -- ---- Raising the number never alters a Solved or a None: neither the answer nor the domains left.

  pub raising_keeps : (n m : ℕ) → n ≤ m → told n ≢ says it_is_spent → (told m ≡ told n) × ((left m).room ≡ (left n).room)
  unfolding found_on
  raising_keeps n m h k =
      let same = board.raising_keeps rows domains playable n m h (λ e. k (says_word n ∙ ap said_of e)) in (
        says_word m ∙ ap said_of same ∙ sym (says_word n),
        room_is m ∙ ap (λ (x : Ending). onto (domains_after x (settled_of (board_in file)).left) room) same ∙ sym (room_is n),
      )

  -- ---- The number left is the number given less what the search needs, and 0 after Spent.

  pub left_of_given : (n : ℕ) → told n ≢ says it_is_spent → (left n).choices + needed_on (board_in file) ≡ n
  unfolding found_on
  left_of_given n k =
      ap (λ (c : ℕ). c + needed_on (board_in file)) (choices_are n)
      ∙ board.left_of_given rows domains playable n (λ e. k (says_word n ∙ ap said_of e))

  pub none_left : (n : ℕ) → told n ≡ says it_is_spent → (left n).choices ≡ 0
  unfolding found_on
  none_left n q = choices_are n ∙ board.none_left rows domains playable n (spent_by (end_of (board_in file) n) (word n it_is_spent q))
