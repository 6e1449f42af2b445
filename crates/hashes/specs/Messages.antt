-- The polynomial of a message: byte by byte, its leading term, and that different messages have different polynomials.
use Rattle.std.specs.Prelude.{◌≡◌, ℕ, zero, suc, ◌+◌, ◌*◌, ◌/◌, ◌^◌, ◌<◌, ◌≤◌, List, length, refl}
use Rattle.std.proofs.Common.{sym, ap, ◌∙◌, subst, lt_of_lt_of_le, one-mul, pow-suc, arith, pow-add, pow_mono}
use Rattle.hashes.specs.Division.{message_polynomial}
use Rattle.hashes.specs.Word.{Bytes, word}
use Rattle.hashes.specs.Bytes.{after_word, word_injective, word_lt}
use Rattle.hashes.specs.Degree.{lead_high, lead_unique}
use Rattle.hashes.specs.Words.{word_lead}
use Rattle.std.specs.Int.Digits.{number_from_digits_after}

byte_power : (k : ℕ) → 256 ^ k ≡ 2 ^ (8 * k)
byte_power zero = refl
byte_power (suc k) =
    pow-suc 256 k ∙ ap (λ (x : ℕ). x * 256) (byte_power k) ∙ sym (pow-add 2 (8 * k) 8) ∙ ap (λ (x : ℕ). 2 ^ x) (omega arith)

-- the bytes taken in one by one after the leading one
pub message_after : (m : List ℕ) → number_from_digits_after 256 1 m ≡ message_polynomial m
message_after m =
    after_word 1 m ∙ ap (λ (x : ℕ). x + word m) (one-mul (256 ^ length m) ∙ byte_power (length m))

message_lead : (m : List ℕ) → Bytes m → message_polynomial m / 2 ^ (8 * length m) ≡ 1
message_lead m h = word_lead (8 * length m) (word m) (rw (← (byte_power (length m))) (word_lt m h))

pub message_lt : (L : ℕ) (m : List ℕ) → Bytes m → length m ≤ L → message_polynomial m < 2 ^ suc (8 * L)
message_lt L m h le = lt_of_lt_of_le (lead_high (message_polynomial m) (8 * length m) (message_lead m h)) (pow_mono (omega arith))

pub message_polynomial_injective : (m n : List ℕ) → Bytes m → Bytes n → message_polynomial m ≡ message_polynomial n → m ≡ n
message_polynomial_injective m n hm hn e = word_injective m n hm hn same words
  where
    same : length m ≡ length n
    same =
        let eights : 8 * length m ≡ 8 * length n =
        lead_unique (message_polynomial n) (8 * length m) (8 * length n)
        (subst (λ (x : ℕ). x / 2 ^ (8 * length m) ≡ 1) e (message_lead m hm)) (message_lead n hn) in
        omega arith

    words : word m ≡ word n
    words =
        let parts : 2 ^ (8 * length m) + word m ≡ 2 ^ (8 * length m) + word n = e ∙ ap (λ (x : ℕ). 2 ^ (8 * x) + word n) (sym same) in
        omega arith
