-- Sums over all fillings of a row: by its first cell, by its last, by two parts; that they look at fillings only, grow, and are at most 32 to the n.
-- Assumes nothing.
use Rattle.std.specs.Prelude.{◌≡◌, refl, Bool, true, false, List, [], ◌∷◌, ◌++◌, ℕ, zero, suc, ◌^◌, ◌≤◌, ◌<◌, length, get_or}
use Rattle.std.proofs.Common.{sym, ap, ◌∙◌, add-zero, mul-le-mul_right, le_trans, le_refl, le_of_eq, le_of_suc-le-suc, arith}
use Rattle.std.proofs.Math.Nat.{pow-succ'}
use Rattle.told.specs.Told.{when}
use Rattle.sizes.specs.Sizes.{values}
use Rattle.listing.specs.Listing.{how_many, sum_over}
use Rattle.counting.specs.Counting.{lists, listed, fillings, Filling, NoNewValue}
use Rattle.listing.specs.Sums.{sum_cong, sum_swap, sum_le, sum_map, sum_flat, how_many_sum}
use Rattle.counting.proofs.Domains.{listed_le, listed_cong, listed_grows}

-- the sum of g f over the fillings f of cells with these domains
abbrev pub over_fillings : List ℕ → (List ℕ → ℕ) → ℕ
over_fillings ds g = sum_over g (fillings ds)

-- the first cell's values, and the fillings of the rest
pub over_nil : (g : List ℕ → ℕ) → over_fillings [] g ≡ g []
unfolding fillings
over_nil g = add-zero (g [])

pub over_cons : (d : ℕ) (ds : List ℕ) (g : List ℕ → ℕ) → over_fillings (d ∷ ds) g ≡ sum_over (λ v. over_fillings ds (λ f. g (v ∷ f))) (listed d)
unfolding fillings
over_cons d ds g = sum_flat g _ (listed d) ∙ sum_cong _ _ (listed d) (λ v. sum_map g (λ f. v ∷ f) (fillings ds))

-- a filling of two runs of cells is a filling of each
pub over_append : (cs ds : List ℕ) (g : List ℕ → ℕ) → over_fillings (cs ++ ds) g ≡ over_fillings cs (λ f. over_fillings ds (λ h. g (f ++ h)))
over_append [] ds g = sym (over_nil (λ f. over_fillings ds (λ h. g (f ++ h))))
over_append (c ∷ cs) ds g =
    over_cons c (cs ++ ds) g
    ∙ sum_cong _ _ (listed c) (λ v. over_append cs ds (λ f. g (v ∷ f)))
    ∙ sym (over_cons c cs (λ f. over_fillings ds (λ h. g (f ++ h))))

-- the last cell's values, and the fillings of those before
pub over_snoc : (ds : List ℕ) (d : ℕ) (g : List ℕ → ℕ)
    → over_fillings (ds ++ (d ∷ [])) g ≡ sum_over (λ v. over_fillings ds (λ f. g (f ++ (v ∷ [])))) (listed d)
over_snoc ds d g =
    over_append ds (d ∷ []) g
    ∙ sum_cong _ _ (fillings ds) (λ f. over_cons d [] (λ h. g (f ++ h)) ∙ sum_cong _ _ (listed d) (λ v. over_nil (λ h. g (f ++ (v ∷ h)))))
    ∙ sum_swap (λ f v. g (f ++ (v ∷ []))) (fillings ds) (listed d)

-- a filling is as long as the row, and has a listed value at each place; and what is so is a filling
pub filling_length : (ds f : List ℕ) → Filling ds f → length f ≡ length ds
filling_length [] [] t = refl
filling_length [] (x ∷ f) t = absurd t
filling_length (d ∷ ds) [] t = absurd t
filling_length (d ∷ ds) (x ∷ f) t = ap suc (filling_length ds f t.2)

pub filling_at : (ds f : List ℕ) → Filling ds f → (p : ℕ) → p < length ds → (get_or f p 0 < values) × (lists (get_or ds p 0) (get_or f p 0) ≡ true)
filling_at [] f t p l = absurd (omega arith)
filling_at (d ∷ ds) [] t p l = absurd t
filling_at (d ∷ ds) (x ∷ f) t zero l = (t.0, t.1)
filling_at (d ∷ ds) (x ∷ f) t (suc p) l = filling_at ds f t.2 p (le_of_suc-le-suc l)

pub filling_by : (ds f : List ℕ) → length f ≡ length ds
    → ((p : ℕ) → p < length ds → (get_or f p 0 < values) × (lists (get_or ds p 0) (get_or f p 0) ≡ true)) → Filling ds f
filling_by [] [] n h = tt
filling_by [] (x ∷ f) n h = absurd (omega arith)
filling_by (d ∷ ds) [] n h = absurd (omega arith)
filling_by (d ∷ ds) (x ∷ f) n h = ((h 0 (omega arith)).0, (h 0 (omega arith)).1, filling_by ds f (omega arith) (λ p l. h (suc p) (omega arith)))

-- only fillings matter
pub over_cong : (ds : List ℕ) (g h : List ℕ → ℕ) → ((f : List ℕ) → Filling ds f → g f ≡ h f) → over_fillings ds g ≡ over_fillings ds h
over_cong [] g h e = over_nil g ∙ e [] tt ∙ sym (over_nil h)
over_cong (d ∷ ds) g h e =
    over_cons d ds g
    ∙ listed_cong d _ _ (λ v l i. over_cong ds (λ f. g (v ∷ f)) (λ f. h (v ∷ f)) (λ f t. e (v ∷ f) (l, i, t)))
    ∙ sym (over_cons d ds h)

-- more values and larger terms make no smaller sum
pub over_grows : (ds es : List ℕ) (g h : List ℕ → ℕ) → NoNewValue ds es → ((f : List ℕ) → g f ≤ h f) → over_fillings ds g ≤ over_fillings es h
over_grows [] [] g h w le = le_trans (le_of_eq (over_nil g)) (le_trans (le []) (le_of_eq (sym (over_nil h))))
over_grows [] (e ∷ es) g h w le = absurd (omega (arith, w.cells))
over_grows (d ∷ ds) [] g h w le = absurd (omega (arith, w.cells))
over_grows (d ∷ ds) (e ∷ es) g h w le =
    le_trans (le_of_eq (over_cons d ds g))
    (le_trans (listed_grows d e _ _ (w.values_there 0) (λ v. over_grows ds es (λ f. g (v ∷ f)) (λ f. h (v ∷ f)) rest (λ f. le (v ∷ f))))
    (le_of_eq (sym (over_cons e es h))))
  where
    rest : NoNewValue ds es
    rest = record { cells = omega (arith, w.cells); values_there = λ p. w.values_there (suc p) }

-- at most 32 values are listed in each cell, so n cells have at most 32 to the n fillings
over_le : (ds : List ℕ) (g : List ℕ → ℕ) → ((f : List ℕ) → g f ≤ 1) → over_fillings ds g ≤ values ^ length ds
over_le [] g h = le_trans (le_of_eq (over_nil g)) (h [])
over_le (d ∷ ds) g h =
    le_trans (le_of_eq (over_cons d ds g))
    (le_trans (sum_le _ (values ^ length ds) (listed d) (λ v. over_le ds (λ f. g (v ∷ f)) (λ f. h (v ∷ f))))
    (le_trans (mul-le-mul_right (values ^ length ds) (listed_le d)) (le_of_eq (sym (pow-succ' values (length ds))))))

pub many_le : (ds : List ℕ) (p : List ℕ → Bool) → how_many p (fillings ds) ≤ values ^ length ds
many_le ds p = rw (how_many_sum p (fillings ds)) (over_le ds _ (λ f. one (p f)))
  where
    one : (b : Bool) → when b 1 ≤ 1
    one true = le_refl 1
    one false = omega arith
