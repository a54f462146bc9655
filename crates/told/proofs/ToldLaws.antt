-- Laws of answers and of refusals in their order. Assumes nothing.
use Rattle.std.specs.Prelude.{◌≡◌, refl, Bool, true, false, not, cond, ℕ, zero, suc, ◌+◌, ◌-◌, ◌≤◌, ◌<◌, ◌≢◌, eqb, Result, Ok, Err}
use Rattle.std.proofs.Common.{sym, ap, ◌∙◌, zero-add, suc-add, add-one, arith, eqb-true, eq-eqb, ne_eqb, le-ltb, lt-ltb, le-leb}
use Rattle.std.proofs.lemmas.Bool.{not-false, eqb-false, lt-leb}
use Rattle.told.specs.declared.Refusal.{Refusal}
use Rattle.told.specs.declared.Refusal.TheVariants.{Length, Limits, Table, Place, Fraction, Size, Mark, Counts, Start, End, Cell, Twice, Room, WriterRoom, Stack}
use Rattle.told.specs.Told.{Told, refused, says, when, first, firsts, answer, leave, number_of, told, told_by, refusal_in}

-- two answers that tell the same are the same, where the telling can be undone
pub same_answer : {A B : Type 0} (told : A → B) (back : B → A) → ((a : A) → back (told a) ≡ a) → {r s : A} {x : B} → told r ≡ x → told s ≡ x → r ≡ s
same_answer told back undone {r} {s} p q = sym (undone r) ∙ ap back (p ∙ sym q) ∙ undone s

-- a refusal is read back from its number, so no two have the same, and none has 0
refusal_from : ℕ → Refusal
refusal_from n = cond (eqb n 1) Length (cond (eqb n 2) Limits (cond (eqb n 3) Table (cond (eqb n 4) Place (cond (eqb n 5) Fraction (cond (eqb n 6) Size (cond (eqb n 7) Mark (cond (eqb n 8) Counts (cond (eqb n 9) Start (cond (eqb n 10) End (cond (eqb n 11) Cell (cond (eqb n 12) Twice (cond (eqb n 13) Room (cond (eqb n 14) WriterRoom Stack)))))))))))))

refusal_back : (e : Refusal) → refusal_from (number_of e) ≡ e
unfolding refusal_from
refusal_back Length = refl
refusal_back Limits = refl
refusal_back Table = refl
refusal_back Place = refl
refusal_back Fraction = refl
refusal_back Size = refl
refusal_back Mark = refl
refusal_back Counts = refl
refusal_back Start = refl
refusal_back End = refl
refusal_back Cell = refl
refusal_back Twice = refl
refusal_back Room = refl
refusal_back WriterRoom = refl
refusal_back Stack = refl

pub some_number : (e : Refusal) → number_of e ≡ 0 → ⊥
some_number Length e = omega (arith, e)
some_number Limits e = omega (arith, e)
some_number Table e = omega (arith, e)
some_number Place e = omega (arith, e)
some_number Fraction e = omega (arith, e)
some_number Size e = omega (arith, e)
some_number Mark e = omega (arith, e)
some_number Counts e = omega (arith, e)
some_number Start e = omega (arith, e)
some_number End e = omega (arith, e)
some_number Cell e = omega (arith, e)
some_number Twice e = omega (arith, e)
some_number Room e = omega (arith, e)
some_number WriterRoom e = omega (arith, e)
some_number Stack e = omega (arith, e)

-- an answer is read back from what it says, and a test from its number
answer_from : {A B : Type 0} → (B → A) → Told B → Result A Refusal
answer_from back (refused n) = Err (refusal_from n)
answer_from back (says b) = Ok (back b)

answer_back : {A B : Type 0} (f : A → B) (back : B → A) → ((a : A) → back (f a) ≡ a) → (r : Result A Refusal) → answer_from back (told_by f r) ≡ r
unfolding answer_from
answer_back f back undone (Ok a) = ap (λ z. Ok z) (undone a)
answer_back f back undone (Err e) = ap (λ (z : Refusal). Err z) (refusal_back e)

pub same_told_by : {A B : Type 0} (f : A → B) (back : B → A) → ((a : A) → back (f a) ≡ a) → {r s : Result A Refusal} {x : Told B} → told_by f r ≡ x → told_by f s ≡ x → r ≡ s
same_told_by f back undone = same_answer (told_by f) (answer_from back) (answer_back f back undone)

told_plainly : {A : Type 0} (r : Result A Refusal) → told_by (λ a. a) r ≡ told r
told_plainly (Ok a) = refl
told_plainly (Err e) = refl

pub same_told : {A : Type 0} {r s : Result A Refusal} {x : Told A} → told r ≡ x → told s ≡ x → r ≡ s
same_told {r = r} {s = s} p q = same_told_by (λ a. a) (λ a. a) (λ a. refl) (told_plainly r ∙ p) (told_plainly s ∙ q)

test_from : ℕ → Result (Unit {0}) Refusal
test_from n = cond (eqb n 0) (Ok tt) (Err (refusal_from n))

test_back : (r : Result (Unit {0}) Refusal) → test_from (refusal_in r) ≡ r
unfolding test_from
test_back (Ok a) = refl
test_back (Err e) = rw (ne_eqb (number_of e) 0 (some_number e)) (ap (λ (z : Refusal). Err z) (refusal_back e))

pub same_test : {r s : Result (Unit {0}) Refusal} {n : ℕ} → refusal_in r ≡ n → refusal_in s ≡ n → r ≡ s
same_test = same_answer refusal_in test_from test_back

-- where another function made the test: it refused, or it did not and the rest decides
pub first_err : (e : Refusal) (a b : ℕ) → number_of e ≡ a → number_of e ≡ first a b
first_err e zero b h = absurd (some_number e h)
first_err e (suc a) b h = h

pub first_ok : (a b x : ℕ) → 0 ≡ a → x ≡ b → x ≡ first a b
first_ok a b x h q = rw (← h) q

-- a call whose refusal test answered y says y and leaves its rooms, or, where y is 0, does what it is for
module _ {A : Type 0} (y refusal : ℕ) (e : y ≡ refusal) where
  pub says_no : (a : A) → (y ≡ 0 → ⊥) → refused y ≡ answer refusal a
  says_no a some = go y some e
    where
      go : (n : ℕ) → (n ≡ 0 → ⊥) → n ≡ refusal → refused n ≡ answer refusal a
      go zero none q = absurd (none refl)
      go (suc n) none q = rw (← q)

  pub says_yes : (a : A) (x : Told A) → y ≡ 0 → x ≡ says a → x ≡ answer refusal a
  says_yes a x z q = rw (← e, z) q

  pub leaves_held : (held new x : A) → (y ≡ 0 → ⊥) → x ≡ held → x ≡ leave refusal held new
  leaves_held held new x some q = go y some e
    where
      go : (n : ℕ) → (n ≡ 0 → ⊥) → n ≡ refusal → x ≡ leave refusal held new
      go zero none p = absurd (none refl)
      go (suc n) none p = rw (← p) q

  pub leaves_new : (held new x : A) → y ≡ 0 → x ≡ new → x ≡ leave refusal held new
  leaves_new held new x z q = rw (← e, z) q

-- what a function answers that goes through refusals by early returns: past a test that fails, at one that holds, and the same at the last
pub past : (t : Bool) (n x r : ℕ) → t ≡ false → x ≡ r → x ≡ first (when t n) r
past t n x r e q = rw e q

pub at : (t : Bool) (n r : ℕ) → t ≡ true → suc n ≡ first (when t (suc n)) r
at t n r e = rw e

pub past_last : (t : Bool) (n : ℕ) → t ≡ false → 0 ≡ when t n
past_last t n e = rw e

pub at_last : (t : Bool) (n : ℕ) → t ≡ true → n ≡ when t n
at_last t n e = rw e

-- the same where another function made the test and answered y
pub past_call : (y a x r : ℕ) → y ≡ a → y ≡ 0 → x ≡ r → x ≡ first a r
past_call y a x r e z q = rw (← e, z) q

pub at_call : (y a r : ℕ) → y ≡ a → (y ≡ 0 → ⊥) → y ≡ first a r
at_call zero a r e some = absurd (some refl)
at_call (suc y) a r e some = rw (← e)

-- a test that two numbers differ
pub differ : (a b : ℕ) → (a ≡ b → ⊥) → not (eqb a b) ≡ true
differ a b h = rw (ne_eqb a b h)

pub agree : (a b : ℕ) → a ≡ b → not (eqb a b) ≡ false
agree a b h = rw (eq-eqb a b h)

pub ruleset refusals = (past, at, past_last, at_last, eq-eqb, ne_eqb, differ, agree, le-ltb, lt-ltb, le-leb, lt-leb)

-- where nothing refuses, neither of two does, and no test holds
pub neither : (a b : ℕ) → first a b ≡ 0 → (a ≡ 0) × (b ≡ 0)
neither zero b e = (refl, e)
neither (suc a) b e = absurd (omega arith)

pub both_none : (a b : ℕ) → a ≡ 0 → b ≡ 0 → first a b ≡ 0
both_none a b e h = rw e h

pub not_held : (t : Bool) (n : ℕ) → when t (suc n) ≡ 0 → t ≡ false
not_held true n e = absurd (omega arith)
not_held false n e = refl

pub not_differ : (a b n : ℕ) → when (not (eqb a b)) (suc n) ≡ 0 → a ≡ b
not_differ a b n e = eqb-true a b (not-false (eqb a b) (not_held (not (eqb a b)) n e))

-- among many: one more that does not refuse, the first that does, and the end
pub firsts_more : (f : ℕ → ℕ) (i : ℕ) → firsts f i ≡ 0 → f i ≡ 0 → firsts f (suc i) ≡ 0
unfolding firsts
firsts_more f i e h = rw (e, h)

firsts_stay : (f : ℕ → ℕ) (r i k : ℕ) → firsts f i ≡ suc r → firsts f (k + i) ≡ suc r
unfolding firsts
firsts_stay f r i zero e = rw zero-add e
firsts_stay f r i (suc k) e = rw (suc-add, firsts_stay f r i k e)

pub firsts_hit : (f : ℕ → ℕ) (r i n : ℕ) → i < n → firsts f i ≡ 0 → f i ≡ suc r → firsts f n ≡ suc r
unfolding firsts
firsts_hit f r i n l e h =
    let one : firsts f (suc i) ≡ suc r = rw (e, h) in
    let m : n - suc i + suc i ≡ n = omega arith in
    rw m at (firsts_stay f r (suc i) (n - suc i) one)

-- where none of the first n refuses, each of them does not
pub firsts_each : (f : ℕ → ℕ) (n : ℕ) → firsts f n ≡ 0 → (i : ℕ) → i < n → f i ≡ 0
unfolding firsts
firsts_each f zero e i l = absurd (omega arith)
firsts_each f (suc n) e i l = go (λ k. firsts_each f n z.0 i k) (eqb i n) refl
  where
    z : (firsts f n ≡ 0) × (f n ≡ 0)
    z = neither (firsts f n) (f n) e

    go : (i < n → f i ≡ 0) → (t : Bool) → eqb i n ≡ t → f i ≡ 0
    go below true q = ap f (eqb-true i n q) ∙ z.1
    go below false q = let m : i ≢ n = eqb-false i n q in below (omega arith)

-- where each of the first n does not refuse, none of them does, and the same refusals give the same
pub firsts_zero : (f : ℕ → ℕ) (n : ℕ) → ((i : ℕ) → i < n → f i ≡ 0) → firsts f n ≡ 0
unfolding firsts
firsts_zero f zero h = refl
firsts_zero f (suc n) h = rw (firsts_zero f n (λ i l. h i (omega arith)), h n (omega arith))

pub firsts_same : (f g : ℕ → ℕ) (n : ℕ) → ((i : ℕ) → i < n → f i ≡ g i) → firsts f n ≡ firsts g n
unfolding firsts
firsts_same f g zero h = refl
firsts_same f g (suc n) h = rw (firsts_same f g n (λ i l. h i (omega arith)), h n (omega arith))

-- a loop through many refusals: at its start, one more that does not refuse, one that does, and its end
pub firsts_start : (f : ℕ → ℕ) → firsts f 0 ≡ 0
unfolding firsts
firsts_start f = refl

pub firsts_next : (f : ℕ → ℕ) (i x : ℕ) → firsts f i ≡ 0 → x ≡ f i → x ≡ 0 → firsts f (i + 1) ≡ 0
firsts_next f i x e h z = rw add-one (firsts_more f i e (sym h ∙ z))

pub firsts_stop : (f : ℕ → ℕ) (i n x : ℕ) → i < n → firsts f i ≡ 0 → x ≡ f i → (x ≡ 0 → ⊥) → x ≡ firsts f n
firsts_stop f i n zero l e h some = absurd (some refl)
firsts_stop f i n (suc x) l e h some = sym (firsts_hit f x i n l e (sym h))

pub firsts_end : (f : ℕ → ℕ) (i n : ℕ) → i ≤ n → n ≤ i → firsts f i ≡ 0 → 0 ≡ firsts f n
firsts_end f i n l g e = let m : i ≡ n = omega arith in sym (rw m at e)

-- the same where each test answers a Result: one that refuses, and one more that does not
pub firsts_err : (f : ℕ → ℕ) (i n : ℕ) (e : Refusal) → i < n → firsts f i ≡ 0 → number_of e ≡ f i → number_of e ≡ firsts f n
firsts_err f i n e l z h = firsts_stop f i n (number_of e) l z h (some_number e)

pub firsts_ok : (f : ℕ → ℕ) (i : ℕ) → firsts f i ≡ 0 → 0 ≡ f i → firsts f (i + 1) ≡ 0
firsts_ok f i z h = firsts_next f i 0 z h refl

pub ruleset refusal_loop = (firsts_start, firsts_err, firsts_ok, firsts_end, first_err, first_ok)

-- what an answer that was taken apart says of the refusal
pub refused_back : {A : Type 0} (n k : ℕ) (a : A) → refused k ≡ answer n a → (k ≡ n) × (k ≡ 0 → ⊥)
refused_back zero k a e = let z : ◌≡◌ {A = ℕ} 0 1 = cc in absurd (omega arith)
refused_back (suc n) k a e = let z : k ≡ suc n = cc in (z, λ h. omega arith)

pub says_back : {A : Type 0} (n : ℕ) (a x : A) → says x ≡ answer n a → (n ≡ 0) × (x ≡ a)
says_back zero a x e = (refl, cc)
says_back (suc n) a x e = let z : ◌≡◌ {A = ℕ} 0 1 = cc in absurd (omega arith)
