-- The laws of counting, each over tests, so that a contract can name it. Assumes nothing.
use Rattle.std.specs.Prelude.{◌≡◌, ℕ, ◌<◌, ◌≤◌, Bool, List, length}
use Rattle.finite.specs.Lists.{In, At}
use Rattle.finite.specs.Counts.{Counts, Passes, Below, count_below}

-- Two counts of the same things are the same number.
abbrev pub OneCount : (A : Type 0) → Type 0
OneCount A = (p : A → Bool) (m n : ℕ) → Counts (Passes p) m → Counts (Passes p) n → m ≡ n

-- What passes a stronger test is no more than what passes a weaker one.
abbrev pub Fewer : (A : Type 0) → Type 0
Fewer A =
    (p q : A → Bool) (m n : ℕ) → ((x : A) → Passes p x → Passes q x) → Counts (Passes p) m → Counts (Passes q) n → m ≤ n

-- Tests that the same things pass have the same count.
abbrev pub Same : (A : Type 0) → Type 0
Same A =
    (p q : A → Bool) (n : ℕ) → ((x : A) → Passes p x → Passes q x) → ((x : A) → Passes q x → Passes p x) → Counts (Passes p) n → Counts (Passes q) n

-- A map that is one-to-one on what passes one test, and reaches all that passes another, carries the count over.
abbrev pub Carried : (A B : Type 0) → Type 0
Carried A B =
    (p : A → Bool) (q : B → Bool) (f : A → B) (n : ℕ) → ((x : A) → Passes p x → Passes q (f x)) → ((x y : A) → Passes p x → Passes p y → f x ≡ f y → x ≡ y) → ((y : B) → Passes q y → (x : A) × Passes p x × (f x ≡ y)) → Counts (Passes p) n → Counts (Passes q) n

-- The count of nothing is 0.
abbrev pub Nothing : (A : Type 0) → Type 0
Nothing A = (p : A → Bool) → ((x : A) → Passes p x → ⊥) → Counts (Passes p) 0

-- Where the count is 0, there is nothing.
abbrev pub NoMore : (A : Type 0) → Type 0
NoMore A = (p : A → Bool) → Counts (Passes p) 0 → (x : A) → Passes p x → ⊥

-- Where the count is above 0, there is something.
abbrev pub Something : (A : Type 0) → Type 0
Something A = (p : A → Bool) (n : ℕ) → 0 < n → Counts (Passes p) n → (x : A) × Passes p x

-- What is in a list stands at a place below its length.
abbrev pub Placed : (A : Type 0) → Type 0
Placed A = (x : A) (xs : List A) → In x xs → (i : ℕ) × (i < length xs) × At xs i x

-- What stands at a place of a list is in it.
abbrev pub Held : (A : Type 0) → Type 0
Held A = (x : A) (xs : List A) (i : ℕ) → At xs i x → In x xs

-- The computed count of the numbers below a bound that pass a test is their count.
abbrev pub Computed : Type 0
Computed = (p : ℕ → Bool) (n : ℕ) → Counts (Below p n) (count_below p n)
