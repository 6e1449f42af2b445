-- Why a string is no key, and what opening a family answers.
use Rattle.std.specs.Prelude.{ℕ, ◌+◌, ◌^◌, cond, List, length, Some, None, Ok, Err, Option, Result, ◌==◌}
use Rattle.hashes.specs.Family.{Meaning, absorbed}
use Rattle.hashes.specs.Irreducible.{irreducible_by_trial}
use Rattle.hashes.specs.declared.key_fault.KeyFault.{KeyFault}
use Rattle.hashes.specs.declared.key_fault.KeyFault.TheVariants.{Length, Zero, Reducible}

-- the number of a refusal
abbrev pub number_of_key_fault : KeyFault → ℕ
number_of_key_fault Length = 1
number_of_key_fault Zero = 2
number_of_key_fault Reducible = 3

-- 2 where a word that may not be zero is
abbrev pub zero_refusal : ℕ → Option ℕ
zero_refusal a = cond (a == 0) (Some 2) None

-- 3 where x^64 + p is not irreducible
abbrev pub reducible_refusal : ℕ → Option ℕ
reducible_refusal p = cond (irreducible_by_trial (2 ^ 64 + p)) None (Some 3)

-- an answer: what was asked for, or the number of a refusal
abbrev pub Answer : Type 0 → Type 0
Answer A = Result A ℕ

-- an answer of the code, its value read by `read`
abbrev pub opened : {F S : Type 0} → (F → S) → Result F KeyFault → Answer S
opened read (Ok f) = Ok (read f)
opened read (Err e) = Err (number_of_key_fault e)

-- what was asked for, unless there is a fault
abbrev pub judged : {A E : Type 0} → A → Option E → Result A E
judged a None = Ok a
judged a (Some e) = Err e

-- what opening a family by a string answers: a string of another length is refused by 1
abbrev pub family_opening : (M : Meaning) → List ℕ → Answer M.State
family_opening M key = cond (length key == M.key_len) (judged (M.first key) (M.refusal key)) (Err 1)

-- an answer with its value turned into another
abbrev pub answered : {A B : Type 0} → (A → B) → Answer A → Answer B
answered f (Ok a) = Ok (f a)
answered f (Err n) = Err n

-- what hashing a message under a string answers: the hash, or the refusal
abbrev pub hashing : (M : Meaning) → List ℕ → List ℕ → Answer ℕ
hashing M key m = answered (λ s. M.close (absorbed M s m)) (family_opening M key)
