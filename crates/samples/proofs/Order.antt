-- Steps that may be taken in any order, and the order of the loops over interleaved samples. Assumes nothing.
use mathlib.Core.Bool.{Bool, true, false, ◌&&◌, ◌||◌, or-true, true≢false}
use mathlib.Core.List.{List}
use mathlib.Core.Logic.{◌⊎◌, inl, inr, ⊎_elim}
use mathlib.Core.Path.{◌≡◌, refl, sym, ap, subst, ◌∙◌}
use Prim.Native.Nat.{ℕ, zero, suc, ◌+◌, ◌*◌, ◌/◌, ◌%◌, ◌<◌, ◌≤◌, min}
use native.Mathlib.Nat.{mod-lt, mod-le, mod-eq_of_lt, add-mod_right, add-mul, div-add-mod', lt_of_mul-lt-mul_right, le-min}
use native.Mathlib.Omega.{arith}
use borrow.Author.Tests.{lt-ltb, ltb-true, ltb-false, eq-eqb, eqb-true}
use lib.Dec.{ltb, eqb}
use lib.ListN.{length}

-- ---- steps of which some are taken, one after the other
module _ {A : Type 0} (f : ℕ → A → A) where
  step : Bool → ℕ → A → A
  step true k x = f k x
  step false k x = x

  -- those below m that t chooses
  pub chosen : (ℕ → Bool) → ℕ → A → A
  chosen t zero x = x
  chosen t (suc k) x = step (t k) k (chosen t k x)

  chosen_same : (t u : ℕ → Bool) (m : ℕ) (x : A) → ((k : ℕ) → k < m → t k ≡ u k) → chosen t m x ≡ chosen u m x
  unfolding chosen
  chosen_same t u zero x e = refl
  chosen_same t u (suc k) x e = ap (λ (b : Bool). step b k (chosen t k x)) (e k (omega arith)) ∙ ap (step (u k) k) (chosen_same t u k x (λ i l. e i (omega arith)))

  chosen_none : (t : ℕ → Bool) (m : ℕ) (x : A) → ((k : ℕ) → k < m → t k ≡ false) → chosen t m x ≡ x
  unfolding chosen step
  chosen_none t zero x e = refl
  chosen_none t (suc k) x e = ap (λ (b : Bool). step b k (chosen t k x)) (e k (omega arith)) ∙ chosen_none t k x (λ i l. e i (omega arith))

  chosen_all : (t : ℕ → Bool) (g : ℕ → A) (m : ℕ) → ((k : ℕ) → k < m → t k ≡ true) → ((k : ℕ) → k < m → g (suc k) ≡ f k (g k)) → chosen t m (g 0) ≡ g m
  unfolding chosen step
  chosen_all t g zero e h = refl
  chosen_all t g (suc k) e h =
      ap (λ (b : Bool). step b k (chosen t k (g 0))) (e k (omega arith))
      ∙ ap (f k) (chosen_all t g k (λ i l. e i (omega arith)) (λ i l. h i (omega arith))) ∙ sym (h k (omega arith))

  -- where any two may change places, one more may be taken last
  module _ (n : ℕ) (swap : (j k : ℕ) (x : A) → j < n → k < n → (j ≡ k → ⊥) → f j (f k x) ≡ f k (f j x)) where
    through : (b : Bool) (j k : ℕ) (x : A) → j < n → k < n → (j ≡ k → ⊥) → f j (step b k x) ≡ step b k (f j x)
    unfolding step
    through true j k x a b ne = swap j k x a b ne
    through false j k x a b ne = refl

    chosen_more : (t u : ℕ → Bool) (j m : ℕ) (x : A) → t j ≡ false → u j ≡ true → ((k : ℕ) → k < n → (k ≡ j → ⊥) → t k ≡ u k) → j < m → m ≤ n → f j (chosen t m x) ≡ chosen u m x
    unfolding chosen step
    chosen_more t u j zero x off on e l h = absurd (omega arith)
    chosen_more t u j (suc k) x off on e l h = go (ltb j k) refl (λ below. chosen_more t u j k x off on e below (omega arith))
      where
        go : (b : Bool) → ltb j k ≡ b → (j < k → f j (chosen t k x) ≡ chosen u k x) → f j (step (t k) k (chosen t k x)) ≡ step (u k) k (chosen u k x)
        go true lt more =
            let below = ltb-true j k lt in
            through (t k) j k (chosen t k x) (omega arith) h (λ s. omega arith)
            ∙ ap (step (t k) k) (more below)
            ∙ ap (λ (b : Bool). step b k (chosen u k x)) (e k h (λ s. omega arith))
        go false ge more =
            let last : j ≡ k = omega (arith, ltb-false j k ge) in
            ap (λ (b : Bool). f j (step b k (chosen t k x))) (ap t (sym last) ∙ off)
            ∙ ap (f j) (chosen_same t u k x (λ i s. e i (omega arith) (λ q. omega arith)))
            ∙ ap (λ (i : ℕ). f i (chosen u k x)) last
            ∙ sym (ap (λ (b : Bool). step b k (chosen u k x)) (ap u (sym last) ∙ on))

-- ---- the loops' order: the turn i takes the numbers i, i + channels and so on
tests_same : (a b : Bool) → (a ≡ true → b ≡ true) → (b ≡ true → a ≡ true) → a ≡ b
tests_same true b f g = sym (f refl)
tests_same false true f g = g refl
tests_same false false f g = refl

-- numbers with one rest that are less than a divisor apart
rest_apart : (c j k : ℕ) → k % c ≡ j % c → j ≤ k → k < j + c → k ≡ j
rest_apart c j k e a b =
    let jd = div-add-mod' j c in
    let kd = div-add-mod' k c in
    let up : (j / c + 1) * c ≡ j / c * c + c = omega (arith, add-mul (j / c) 1 c) in
    let low : k / c < j / c + 1 = lt_of_mul-lt-mul_right c (omega arith) in
    let high : j / c < k / c + 1 = lt_of_mul-lt-mul_right c (omega (arith, add-mul (k / c) 1 c)) in
    let same : k / c ≡ j / c = omega arith in
    sym kd ∙ ap (λ (q : ℕ). q * c + k % c) same ∙ ap (λ (r : ℕ). j / c * c + r) e ∙ jd

module _ (c : ℕ) where
  -- k is passed: in a turn before i, or in the turn i and below j
  abbrev Passed : ℕ → ℕ → ℕ → Type 0
  Passed i j k = (k % c < i) ⊎ ((k % c ≡ i) × (k < j))

  pub done : ℕ → ℕ → ℕ → Bool
  done i j k = ltb (k % c) i || (eqb (k % c) i && ltb k j)

  passed_done : (i j k : ℕ) → Passed i j k → done i j k ≡ true
  unfolding done
  passed_done i j k (inl h) = rw (lt-ltb (k % c) i h)
  passed_done i j k (inr h) = rw (eq-eqb (k % c) i h.0, lt-ltb k j h.1) (or-true (ltb (k % c) i))

  done_passed : (i j k : ℕ) → done i j k ≡ true → Passed i j k
  unfolding done
  done_passed i j k = go (ltb (k % c) i) (eqb (k % c) i) (ltb k j) refl refl refl
    where
      go : (x y z : Bool) → ltb (k % c) i ≡ x → eqb (k % c) i ≡ y → ltb k j ≡ z → (x || (y && z)) ≡ true → Passed i j k
      go true y z a b d h = inl (ltb-true (k % c) i a)
      go false true true a b d h = inr (eqb-true (k % c) i b, ltb-true k j d)
      go false true false a b d h = absurd (true≢false (sym h))
      go false false z a b d h = absurd (true≢false (sym h))

  done_same : (i j i' j' k : ℕ) → (Passed i j k → Passed i' j' k) → (Passed i' j' k → Passed i j k) → done i j k ≡ done i' j' k
  done_same i j i' j' k f g = tests_same (done i j k) (done i' j' k) (λ e. passed_done i' j' k (f (done_passed i j k e))) (λ e. passed_done i j k (g (done_passed i' j' k e)))

  not_done : (i j k : ℕ) → (Passed i j k → ⊥) → done i j k ≡ false
  not_done i j k out = tests_same (done i j k) false (λ e. absurd (out (done_passed i j k e))) (λ e. absurd (true≢false (sym e)))

  before : (j k : ℕ) → k % c ≡ j % c → (k ≡ j → ⊥) → k < j + c → k < j
  before j k e ne l = go (ltb k j) refl
    where
      go : (b : Bool) → ltb k j ≡ b → k < j
      go true lt = ltb-true k j lt
      go false ge = absurd (ne (rest_apart c j k e (ltb-false k j ge) l))

  up_to : (i j k : ℕ) → k % c < i + 1 → k < j → Passed i j k
  up_to i j k l m = go (ltb (k % c) i) refl
    where
      go : (b : Bool) → ltb (k % c) i ≡ b → Passed i j k
      go true lt = inl (ltb-true (k % c) i lt)
      go false ge = inr (omega (arith, ltb-false (k % c) i ge), m)

  module _ {A : Type 0} (f : ℕ → List A → List A) (n : ℕ) where
    -- v is w with the steps below n that are passed
    pub record Went (w v : List A) (i j : ℕ) : Type 0 where
      pub long : length v ≡ length w
      pub is : v ≡ chosen f (done i j) n w

    -- in the turn i, which began with x
    pub record Turn (x v : List A) (i j : ℕ) : Type 0 where
      pub rest : j % c ≡ i
      pub long : length v ≡ length x
      pub goes : (w : List A) → Went w x i i → Went w v i j

    pub went_none : (w : List A) → Went w w 0 0
    went_none w = record { long = refl; is = sym (chosen_none f (done 0 0) n w (λ k l. not_done 0 0 k (⊎_elim (λ h. omega arith) (λ h. omega arith)))) }

    pub went_all : (g : ℕ → List A) (w v : List A) (i j : ℕ) → g 0 ≡ w → ((k : ℕ) → k < n → g (suc k) ≡ f k (g k)) → Went w v i j → 0 < c → i ≡ min c n → v ≡ g n
    went_all g w v i j start turn h some e =
        h.is ∙ ap (chosen f (done i j) n) (sym start)
        ∙ chosen_all f (done i j) g n (λ k l. passed_done i j k (inl (subst (λ (m : ℕ). k % c < m) (sym e) (le-min (mod-lt k some) (omega (arith, mod-le k c)))))) turn

    pub turn_none : (x : List A) (i : ℕ) → i < c → Turn x x i i
    turn_none x i l = record { rest = mod-eq_of_lt l; long = refl; goes = λ w g. g }

    pub turn_next : ((j k : ℕ) (y : List A) → j < n → k < n → (j ≡ k → ⊥) → f j (f k y) ≡ f k (f j y)) → ((j : ℕ) (y : List A) → length (f j y) ≡ length y)
        → (x v : List A) (i j : ℕ) → Turn x v i j → 0 < c → j < n → Turn x (f j v) i (j + c)
    turn_next swap keeps x v i j t some l =
        let e = t.rest in
        record {
          rest = add-mod_right j c ∙ e;
          long = keeps j v ∙ t.long;
          goes =
              λ w g.
              let h = t.goes w g in
              record {
                long = keeps j v ∙ h.long;
                is =
                    ap (f j) h.is
                    ∙ chosen_more f n swap (done i j) (done i (j + c)) j n w (not_done i j j (⊎_elim (λ q. omega arith) (λ q. omega arith))) (passed_done i (j + c) j (inr (e, omega arith)))
                    (λ k m ne. done_same i j i (j + c) k
                    (⊎_elim (λ q. inl q) (λ q. inr (q.0, omega arith)))
                    (⊎_elim (λ q. inl q) (λ q. inr (q.0, before j k (q.0 ∙ sym e) ne q.1))))
                    l (omega arith);
              };
        }

    pub turn_done : (w x v : List A) (i j : ℕ) → Went w x i i → Turn x v i j → n ≤ j → Went w v (i + 1) (i + 1)
    turn_done w x v i j g t l =
        let h = t.goes w g in
        record {
          long = h.long;
          is =
              h.is
              ∙ chosen_same f (done i j) (done (i + 1) (i + 1)) n w (λ k m. done_same i j (i + 1) (i + 1) k
              (⊎_elim (λ q. inl (omega arith)) (λ q. inl (omega arith)))
              (⊎_elim (λ q. up_to i j k q (omega arith)) (λ q. absurd (omega (arith, mod-le k c)))));
        }
