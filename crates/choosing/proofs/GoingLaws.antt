-- `beats` is an order; among candidates that have densities there is one and only one that nothing beats, and going through them finds it.
-- All over both tie orders. Assumes nothing.
use Rattle.std.specs.Prelude.{◌≡◌, true, false, cond}
use Rattle.std.proofs.Math.Path.{refl, sym}
use Rattle.std.proofs.Common.{ap, ◌∙◌, ⊎_elim, add-one, arith, eqb-true, eq-eqb}
use Rattle.std.proofs.Math.Bool.{Bool}
use mathlib.Core.List.Memᴰ
use mathlib.Core.List.{List, [], ◌∷◌, ◌++◌, flat_map, append-nil, append_assoc, Memᴰ}
use Prim.Native.Nat.{ℕ, ◌+◌, ◌≤◌, ◌<◌, compare, Ordering}
use Rattle.std.proofs.Math.Dec.{eqb}
use Rattle.listing.specs.Listing.{keep, only, how_many, below}
use Rattle.listing.specs.Sums.{never}
use Rattle.listing.specs.Members.{none_pass, each_fails, flat_none, flat_more}
use Rattle.choosing.specs.Choosing.{Candidate, Ties, to_lowest, to_highest, by_density, by_cell, by_value, by_row, by_ties, and_then, is_above, stands, beats, unbeaten, settled, advised}
use Rattle.choosing.specs.Promised.{Best}
use Rattle.choosing.specs.Orders.{Lawful, flip, keyed, both, then_eq, numbers, lower, eq_only, Fraction, fractions}
use Rattle.choosing.specs.Going.{Leader, nobody, leads, raise, through, outcome, Live, Apart}

-- ---- beats is an order

-- a candidate that has a density
record Sound : Type 0 where
  it : Candidate
  some : 0 < it.total

fraction : Sound → Fraction
fraction x = record { count = x.it.count; total = x.it.total; above = x.some }

by_value_lem : (o : Ties) → Lawful {A = Sound} (λ x y. by_value o x.it y.it)
by_value_lem to_lowest = keyed (λ a b. compare b a) (λ (x : Sound). x.it.value) lower
by_value_lem to_highest = keyed compare (λ (x : Sound). x.it.value) numbers

lawful : (o : Ties) → Lawful {A = Sound} (λ x y. stands o x.it y.it)
unfolding stands by_ties fraction
lawful o =
    both (λ x y. by_density x.it y.it) (λ x y. by_ties o x.it y.it) (keyed _ fraction fractions)
    (both (λ x y. by_cell x.it y.it) (λ x y. and_then (by_value o x.it y.it) (by_row x.it y.it))
    (keyed (λ a b. compare b a) (λ (x : Sound). x.it.cell) lower)
    (both (λ x y. by_value o x.it y.it) (λ x y. by_row x.it y.it) (by_value_lem o)
    (keyed (λ a b. compare b a) (λ (x : Sound). x.it.row) lower)))

above_gt : (p : Ordering) → is_above p ≡ true → p ≡ Ordering.gt
above_gt Ordering.lt e = cc
above_gt Ordering.eq e = cc
above_gt Ordering.gt e = refl

own : (p : Ordering) → p ≡ flip p → is_above p ≡ false
own Ordering.lt e = refl
own Ordering.eq e = refl
own Ordering.gt e = cc

no_difference : (p q : Ordering) → q ≡ flip p → is_above p ≡ false → is_above q ≡ false → p ≡ Ordering.eq
no_difference Ordering.lt q e a b = cc
no_difference Ordering.eq q e a b = refl
no_difference Ordering.gt q e a b = cc

module _ (o : Ties) where
  beats_on : (x y z : Sound) → beats o x.it y.it ≡ true → beats o y.it z.it ≡ true → beats o x.it z.it ≡ true
  beats_on x y z a b = ap is_above ((lawful o).on x y z (above_gt (stands o x.it y.it) a) (above_gt (stands o y.it z.it) b))

  not_itself : (x : Sound) → beats o x.it x.it ≡ false
  not_itself x = own (stands o x.it x.it) ((lawful o).back x x)

  -- two that do not beat each other are the same triple
  same_triple : (x y : Sound) → beats o x.it y.it ≡ false → beats o y.it x.it ≡ false
      → (x.it.row ≡ y.it.row) × (x.it.cell ≡ y.it.cell) × (x.it.value ≡ y.it.value)
  unfolding stands by_ties
  same_triple x y a b =
      let equal = no_difference (stands o x.it y.it) (stands o y.it x.it) ((lawful o).back x y) a b in
      let tie = (then_eq (by_density x.it y.it) (by_ties o x.it y.it) equal).1 in
      let cell = then_eq (by_cell x.it y.it) (and_then (by_value o x.it y.it) (by_row x.it y.it)) tie in
      let value = then_eq (by_value o x.it y.it) (by_row x.it y.it) cell.1 in
      (sym (eq_only y.it.row x.it.row value.1), sym (eq_only y.it.cell x.it.cell cell.0), go o value.0)
    where
      go : (p : Ties) → by_value p x.it y.it ≡ Ordering.eq → x.it.value ≡ y.it.value
      go to_lowest e = sym (eq_only y.it.value x.it.value e)
      go to_highest e = eq_only x.it.value y.it.value e

-- ---- going through the candidates finds one that nothing beats

module _ (o : Ties) where
  -- b is the best of xs, if there are any
  abbrev pub Finds : List Candidate → Leader → Type 0
  Finds xs nobody = (x : Candidate) → Memᴰ x xs → ⊥
  Finds xs (leads x) = Best o xs x

  finds_more : (xs : List Candidate) (b : Leader) (x : Candidate) → Live (xs ++ (x ∷ [])) → Finds xs b → Finds (xs ++ (x ∷ [])) (raise o b x)
  finds_more xs b x live f = go b f
    where
      last : Memᴰ x (xs ++ (x ∷ []))
      last = Memᴰ.append_right xs (Memᴰ.head refl)

      sound : (y : Candidate) → Memᴰ y (xs ++ (x ∷ [])) → Sound
      sound y m = record { it = y; some = live y m }

      -- each of them is one of xs or x
      each : (P : Candidate → Type 0) → ((y : Candidate) → Memᴰ y xs → P y) → P x → (y : Candidate) → Memᴰ y (xs ++ (x ∷ [])) → P y
      each P early here y m = ⊎_elim (λ l. early y l) (λ l. (let e : y ≡ x = Memᴰ.eq_of_singleton l in rw e here)) (Memᴰ.append_cases xs m)

      -- what beat x would beat z
      under : (z y : Candidate) → Best o xs z → beats o x z ≡ true → Memᴰ y xs → (t : Bool) → beats o y x ≡ t → t ≡ false
      under z y best e m true q =
          sym (beats_on o (sound y (Memᴰ.append_left (x ∷ []) m)) (sound x last) (sound z (Memᴰ.append_left (x ∷ []) best.member)) q e)
          ∙ best.not_beaten y m
      under z y best e m false q = refl

      pick : (z : Candidate) → Best o xs z → (t : Bool) → beats o x z ≡ t → Best o (xs ++ (x ∷ [])) (cond t x z)
      pick z best true e =
          record {
            member = last;
            not_beaten = each (λ y. beats o y x ≡ false) (λ y m. under z y best e m (beats o y x) refl) (not_itself o (sound x last));
          }
      pick z best false e =
          record { member = Memᴰ.append_left (x ∷ []) best.member; not_beaten = each (λ y. beats o y z ≡ false) best.not_beaten e }

      go : (b : Leader) → Finds xs b → Finds (xs ++ (x ∷ [])) (raise o b x)
      go nobody none =
          record { member = last; not_beaten = each (λ y. beats o y x ≡ false) (λ y m. absurd (none y m)) (not_itself o (sound x last)) }
      go (leads z) best = pick z best (beats o x z) refl

  finds_all : (xs : List Candidate) (b : Leader) (ys : List Candidate) → Live (xs ++ ys) → Finds xs b → Finds (xs ++ ys) (through o b ys)
  unfolding through
  finds_all xs b [] live f = rw append-nil f
  finds_all xs b (y ∷ ys) live f =
      let whole : (xs ++ (y ∷ [])) ++ ys ≡ xs ++ (y ∷ ys) = append_assoc xs (y ∷ []) ys in
      let all : Live ((xs ++ (y ∷ [])) ++ ys) = rw whole live in
      rw whole at (finds_all (xs ++ (y ∷ [])) (raise o b y) ys all (finds_more xs b y (λ x m. all x (Memᴰ.append_left ys m)) f))

  pub finds : (xs : List Candidate) → Live xs → Finds xs (through o nobody xs)
  finds xs live = finds_all [] nobody xs live (λ x m. Memᴰ.not-nil m)

-- ---- one and only one

module _ (o : Ties) (xs : List Candidate) (live : Live xs) where
  -- where there is a candidate, there is one that nothing beats
  pub best_there : (x : Candidate) → Memᴰ x xs → (y : Candidate) × Best o xs y
  best_there x m = go (through o nobody xs) (finds o xs live)
    where
      go : (b : Leader) → Finds o xs b → (y : Candidate) × Best o xs y
      go nobody none = absurd (none x m)
      go (leads y) best = (y, best)

  -- and no second
  pub best_alone : Apart xs → (x y : Candidate) → Best o xs x → Best o xs y → x ≡ y
  best_alone apart x y a b =
      let sound : (z : Candidate) → Memᴰ z xs → Sound = λ z m. record { it = z; some = live z m } in
      let t = same_triple o (sound x a.member) (sound y b.member) (b.not_beaten x a.member) (a.not_beaten y b.member) in
      apart x y a.member b.member t.0 t.1 t.2

-- ---- so it is the first, and the only one, of those that nothing beats

first_none : (p : Candidate → Bool) (xs : List Candidate) → ((x : Candidate) → Memᴰ x xs → ⊥) → advised (only p xs) ≡ settled
first_none p [] none = refl
first_none p (x ∷ xs) none = absurd (none x (Memᴰ.head refl))

first_of : (p : Candidate → Bool) (xs : List Candidate) (x : Candidate) → Memᴰ x xs → p x ≡ true → ((y : Candidate) → Memᴰ y xs → p y ≡ true → y ≡ x)
    → advised (only p xs) ≡ outcome (leads x)
first_of p [] x m e h = absurd (Memᴰ.not-nil m)
first_of p (y ∷ xs) x m e h = go (λ n. first_of p xs x n e (λ z k. h z (Memᴰ.tail k))) (p y) refl
  where
    go : (Memᴰ x xs → advised (only p xs) ≡ outcome (leads x)) → (t : Bool) → p y ≡ t → advised (keep t y (only p xs)) ≡ outcome (leads x)
    go rest true q = ap (λ (z : Candidate). outcome (leads z)) (h y (Memᴰ.head refl) q)
    go rest false q = ⊎_elim (λ z. absurd (never (sym q ∙ ap p (sym z) ∙ e))) rest (Memᴰ.cases_cons m)

module _ (o : Ties) (xs : List Candidate) (live : Live xs) (apart : Apart xs) where
  -- going through them comes to the advice as it is defined
  pub through_advises : advised (unbeaten o xs) ≡ outcome (through o nobody xs)
  unfolding unbeaten
  through_advises = go (through o nobody xs) (finds o xs live)
    where
      free : Candidate → Bool
      free x = eqb (how_many (λ y. beats o y x) xs) 0

      go : (b : Leader) → Finds o xs b → advised (only free xs) ≡ outcome b
      go nobody none = first_none free xs none
      go (leads x) best =
          first_of free xs x best.member (eq-eqb _ 0 (none_pass (λ y. beats o y x) xs best.not_beaten))
          (λ y m e. best_alone o xs live apart y x (record { member = m; not_beaten = each_fails (λ z. beats o z y) xs (eqb-true _ 0 e) }) best)

-- ---- loops: before the first turn, after one more, and at the end

module _ (o : Ties) where
  through_append : (b : Leader) (xs ys : List Candidate) → through o b (xs ++ ys) ≡ through o (through o b xs) ys
  unfolding through
  through_append b [] ys = refl
  through_append b (x ∷ xs) ys = through_append (raise o b x) xs ys

  pub through_none : (b : Leader) → b ≡ through o b []
  unfolding through
  through_none b = refl

  pub through_one : (b : Leader) (x : Candidate) → raise o b x ≡ through o b (x ∷ [])
  unfolding through
  through_one b x = refl

  module _ (f : ℕ → List Candidate) (b₀ : Leader) where
    pub through_start : b₀ ≡ through o b₀ (flat_map f (below 0))
    through_start = through_none b₀ ∙ ap (through o b₀) (sym (flat_none f))

    pub through_turn : (n : ℕ) (b r : Leader) → b ≡ through o b₀ (flat_map f (below n)) → r ≡ through o b (f n) → r ≡ through o b₀ (flat_map f (below (n + 1)))
    through_turn n b r e q =
        q ∙ ap (λ (x : Leader). through o x (f n)) e ∙ sym (through_append b₀ (flat_map f (below n)) (f n)) ∙ ap (through o b₀) (rw add-one (sym (flat_more f n)))

    pub through_end : (n m : ℕ) (r : Leader) → n ≤ m → m ≤ n → r ≡ through o b₀ (flat_map f (below n)) → r ≡ through o b₀ (flat_map f (below m))
    through_end n m r l h q = let e : n ≡ m = omega arith in rw e at q
