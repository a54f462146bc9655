-- Laws of rooms written place by place, as loops write them. Assumes nothing.
use Rattle.std.specs.Prelude.{◌≡◌, refl, Bool, true, false, List, ℕ, ◌+◌, ◌≤◌, ◌<◌, ltb, length, get_or, set}
use Rattle.std.proofs.Common.{sym, ◌∙◌, arith, ltb-true, ltb-false, get_or-set_same, get_or-set_other}
use Rattle.listing.specs.Listing.{by_place, onto}
use Rattle.listing.specs.Written.{Written}
use Rattle.listing.specs.Places.{place_length, place_at, onto_only}

-- nothing is written yet
pub written_none : (g : ℕ → ℕ) (t : List ℕ) (lo : ℕ) → Written g t t lo lo
written_none g t lo = record { inside = λ k l h. absurd (omega arith); early = λ k h. refl; late = λ k h. refl }

-- the same by another name for what is written
pub written_as : {g : ℕ → ℕ} (h : ℕ → ℕ) {t u : List ℕ} {lo hi : ℕ} → Written g t u lo hi → ((k : ℕ) → lo ≤ k → k < hi → g k ≡ h k) → Written h t u lo hi
written_as h w e = record { inside = λ k l i. w.inside k l i ∙ e k l i; early = w.early; late = w.late }

-- a run of places, and then the run above it or the one below it
module _ (g : ℕ → ℕ) (t u v : List ℕ) (lo mid hi : ℕ) (lo≤ : lo ≤ mid) (≤hi : mid ≤ hi) where
  pub written_up : Written g t u lo mid → Written g u v mid hi → Written g t v lo hi
  written_up w x = record {
    inside = λ k l h. go k l h (ltb k mid) refl;
    early = λ k h. x.early k (omega arith) ∙ w.early k h;
    late = λ k h. x.late k h ∙ w.late k (omega arith);
  }
    where
      go : (k : ℕ) → lo ≤ k → k < hi → (b : Bool) → ltb k mid ≡ b → get_or v k 0 ≡ g k
      go k l h true e = let m = ltb-true k mid e in x.early k m ∙ w.inside k l m
      go k l h false e = x.inside k (ltb-false k mid e) h

  pub written_down : Written g t u mid hi → Written g u v lo mid → Written g t v lo hi
  written_down w x = record {
    inside = λ k l h. go k l h (ltb k mid) refl;
    early = λ k h. x.early k h ∙ w.early k (omega arith);
    late = λ k h. x.late k (omega arith) ∙ w.late k h;
  }
    where
      go : (k : ℕ) → lo ≤ k → k < hi → (b : Bool) → ltb k mid ≡ b → get_or v k 0 ≡ g k
      go k l h true e = x.inside k l (ltb-true k mid e)
      go k l h false e = let m = ltb-false k mid e in x.late k m ∙ w.inside k m h

-- one place more
pub written_more : (g : ℕ → ℕ) (t u : List ℕ) (lo k x : ℕ) → lo ≤ k → k < length u → x ≡ g k → Written g t u lo k → Written g t (set u k x) lo (k + 1)
written_more g t u lo k x h l e w = written_up g t u (set u k x) lo k (k + 1) h (omega arith) w (record {
  inside = λ j i m. (let here : j ≡ k = omega arith in rw here (get_or-set_same u k x 0 l ∙ e));
  early = λ j i. get_or-set_other u k j x 0 (omega arith);
  late = λ j i. get_or-set_other u k j x 0 (omega arith);
})

-- a front that is written
pub written_onto : (g : ℕ → ℕ) (t u : List ℕ) (n : ℕ) → n ≤ length t → length u ≡ length t → Written g t u 0 n → u ≡ onto (by_place g n) t
written_onto g t u n fits l w =
    let e = place_length g n in
    onto_only (by_place g n) t 0 u (omega arith) l
    (λ k h. w.inside k (omega arith) (omega arith) ∙ sym (place_at g n k 0 (omega arith)))
    (λ k h. w.late k (omega arith))
