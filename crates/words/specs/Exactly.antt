-- An answer and what it says.
use Rattle.std.specs.Prelude.{◌≡◌, ℕ}

-- the answer r says what is so, and no other answer does
pub record Exactly {A : Type 0} (Says : A → Type 0) (r : A) : Type 0 where
  pub says : Says r
  pub only : (x : A) → Says x → x ≡ r

-- the number n is that of the answer which says what is so
pub record Tells {A : Type 0} (number_of : A → ℕ) (Says : A → Type 0) (n : ℕ) : Type 0 where
  pub answer : A
  pub number : n ≡ number_of answer
  pub exactly : Exactly Says answer
