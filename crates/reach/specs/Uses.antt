-- The tables have a use for a value exactly when its count is above zero, so that what they leave is what striking leaves. Assumes nothing.
use Rattle.std.specs.Prelude.{◌≡◌, refl, Bool, true, false, List, leb, length, get_or, set}
use Rattle.std.proofs.Math.Path.{sym, ap, ap₂}
use Rattle.std.proofs.Common.{◌∙◌, arith}
use Rattle.std.proofs.Math.Bool.{◌&&◌, not}
use Prim.Native.Nat.{ℕ, suc, ◌+◌, ◌*◌, ◌^◌, ◌<◌}
use Rattle.std.proofs.Math.Dec.{eqb}
use Rattle.told.specs.Told.{when}
use Rattle.sizes.specs.Sizes.{values, highest, sums}
use Rattle.listing.specs.Listing.{only, sum_over, below}
use Rattle.listing.specs.Sums.{when_both, when_cong, sum_cong_below}
use Rattle.counting.specs.Counting.{lists, listed, domain_of, count, forward, backward, kept, gone}
use Rattle.counting.proofs.Domains.{sum_listed_only}
use Rattle.counting.proofs.Counts.{count_law}
use Rattle.counting.specs.Steps.{StruckTo}
use Rattle.counting.proofs.StepLaws.{struck_here, struck_more}
use Rattle.words.specs.Words.{has, any, above_zero, both}
use Rattle.words.specs.Bits.{any_cong, any_none, above_sum, above_times}
use Rattle.reach.specs.Reach.{layer_at, Marked, reached, leads, uses, Tables}
use Rattle.reach.specs.Layers.{reached_down}
use Rattle.reach.specs.Values.{ones}

-- ---- what the tables leave is what striking leaves

only_cong : (d : ℕ) (p q : ℕ → Bool) (g : ℕ → ℕ) → ((v : ℕ) → v < values → lists d v ≡ true → p v ≡ q v) → sum_over g (only p (listed d)) ≡ sum_over g (only q (listed d))
only_cong d p q g e =
    sum_listed_only d p g
    ∙ sum_cong_below _ _ values (λ v l.
    when_both (g v) (lists d v) (p v)
    ∙ when_cong (lists d v) _ _ (λ t. ap (λ (y : Bool). when y (g v)) (e v l t))
    ∙ sym (when_both (g v) (lists d v) (q v)))
    ∙ sym (sum_listed_only d q g)

twice : (t : Bool) → not (not t) ≡ t
twice true = refl
twice false = refl

and_any : (x : Bool) (p : ℕ → Bool) (n : ℕ) → (x && any p n) ≡ any (λ b. x && p b) n
and_any true p n = refl
and_any false p n = sym (any_none n)

and_swap : (x y z : Bool) → (x && (y && z)) ≡ (y && (x && z))
and_swap true true z = refl
and_swap true false z = refl
and_swap false true z = refl
and_swap false false z = refl

module _ (ws ds : List ℕ) (low high : ℕ) (f g : List ℕ) (t : Tables ws ds low high f g) (p : ℕ) (in_row : p < length ds) where
  w : ℕ
  w = get_or ws p 0

  d : ℕ
  d = get_or ds p 0

  from_after : Marked (backward ws ds low high) g (p + 1) (length ds + 1)
  from_after = record { marks = λ i b l h k. t.backwards.marks i b (omega arith) h k; empty = t.backwards.empty }

  -- the tables have a use for a listed value exactly when its count is above zero
  pub uses_counted : (v : ℕ) → v < values → lists (get_or ds p 0) v ≡ true → uses f g p (get_or ws p 0) v ≡ above_zero (count ws ds low high p v)
  unfolding leads reached w
  uses_counted v k e =
      and_any (leb s highest) (both f (layer_at p) g (layer_at (p + 1) + s)) sums
      ∙ any_cong _ _ sums (λ b l.
      and_swap (leb s highest) (has f (layer_at p + b)) (has g (layer_at (p + 1) + s + b))
      ∙ ap₂ ◌&&◌
      (t.forwards.marks p b (omega arith) (omega arith) l)
      (reached_down ws ds g p in_row t.sound.same low high (length ds + 1) t.sound.limit (omega arith) from_after s b l)
      ∙ sym (above_times (forward ws ds p b) (backward ws ds low high (suc p) (b + s))))
      ∙ sym (above_sum (λ b. forward ws ds p b * backward ws ds low high (suc p) (b + s)) sums)
      ∙ ap above_zero
      (sym (count_law ws ds low high p v in_row t.sound.same k (omega (arith, t.sound.limit))
      ∙ ap (λ (y : Bool). when y (sum_over (λ b. forward ws ds p b * backward ws ds low high (suc p) (b + s)) (below sums))) e))
    where
      s : ℕ
      s = w * v

  -- so it keeps what striking keeps, and loses what striking loses
  kept_same : domain_of (only (uses f g p (get_or ws p 0)) (listed (get_or ds p 0))) ≡ domain_of (kept ws ds low high p)
  unfolding kept domain_of
  kept_same = only_cong (get_or ds p 0) (uses f g p (get_or ws p 0)) (λ v. above_zero (count ws ds low high p v)) (λ v. 2 ^ v) uses_counted

  gone_same : length (only (λ v. not (uses f g p (get_or ws p 0) v)) (listed (get_or ds p 0))) ≡ length (gone ws ds low high p)
  unfolding gone
  gone_same =
      sym (ones _ (listed (get_or ds p 0)))
      ∙ only_cong (get_or ds p 0) (λ v. not (uses f g p (get_or ws p 0) v)) (λ v. eqb (count ws ds low high p v) 0) (λ v. 1) (λ v l i. ap not (uses_counted v l i) ∙ twice _)
      ∙ ones _ (listed (get_or ds p 0))

-- one cell more, struck by the tables
pub used_more : (ws ds : List ℕ) (low high : ℕ) (f g es : List ℕ) (n i domain lost : ℕ) → Tables ws ds low high f g → StruckTo ws ds low high es n i → i < length es
    → domain ≡ domain_of (only (uses f g i (get_or ws i 0)) (listed (get_or es i 0)))
    → lost ≡ length (only (λ v. not (uses f g i (get_or ws i 0) v)) (listed (get_or es i 0)))
    → StruckTo ws ds low high (set es i domain) (n + lost) (i + 1)
used_more ws ds low high f g es n i domain lost t s h ed el =
    let in_row : i < length ds = omega (arith, s.size) in
    let here = struck_here ws ds low high es n i s in
    struck_more ws ds low high es n i s domain lost h
    (ed ∙ ap (λ (d : ℕ). domain_of (only (uses f g i (get_or ws i 0)) (listed d))) here ∙ kept_same ws ds low high f g t i in_row)
    (el ∙ ap (λ (d : ℕ). length (only (λ v. not (uses f g i (get_or ws i 0) v)) (listed d))) here ∙ gone_same ws ds low high f g t i in_row)
