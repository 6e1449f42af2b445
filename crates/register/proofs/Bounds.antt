-- How many keys can fail, from a family's law alone.
use Rattle.std.proofs.Common.{◌≡◌, ℕ, max, ◌≢◌, List, [], ◌∷◌, ◌++◌, length, sym, ap, ◌∙◌, subst, ap₂, arith}
use lib.Bits.{bit_xor, xor_assoc, xor_self, xor_zero_r}
use Rattle.std.proofs.ByRecursion.{All-weaker}
use Rattle.std.proofs.lemmas.List.{take_at, drop_at}
use Rattle.hashes.specs.Bytes.{word_injective}
use Rattle.hashes.specs.Family.{Meaning, Lawful, Key, AtMost, hash}
use Rattle.hashes.specs.Word.{Bytes, word}
use Rattle.hashes.specs.Xor.{xor_swap}
use Rattle.register.specs.Records.{Record, bytes_of, message}
use Rattle.register.specs.Book.{BookRecords}
use Rattle.register.specs.Image.{image, seal_field}
use Rattle.register.specs.ImageMessage.{message_of}
use Rattle.register.specs.View.{sealed, key_of, pad_of}
use Rattle.register.specs.Check.{Passes}
use Rattle.register.proofs.Bytes.{bytes_right}
use Rattle.register.proofs.Encoding.{message_bytes, message_inj}
use Rattle.register.proofs.ImageMessages.{message_of_image}
use Rattle.register.proofs.Images.{one_book}
use Rattle.register.proofs.Runs.{taken_encodable}

-- both pads on the other side
pads_out : (a b p q d : ℕ) → bit_xor (bit_xor a p) (bit_xor b q) ≡ d → bit_xor a b ≡ bit_xor d (bit_xor p q)
pads_out a b p q d e =
    sym (xor_zero_r (bit_xor a b)) ∙ ap (bit_xor (bit_xor a b)) (sym (xor_self (bit_xor p q)))
    ∙ sym (xor_assoc (bit_xor a b) (bit_xor p q) (bit_xor p q)) ∙ ap (λ x. bit_xor x (bit_xor p q)) (xor_swap a b p q ∙ e)

pub at_most_weaker : (M : Meaning) (n : ℕ) (P Q : List ℕ → Type 0) → ((key : List ℕ) → Key M key → P key → Q key) → AtMost M n Q → AtMost M n P
at_most_weaker M n P Q f h keys once all = h keys once (All-weaker _ _ (λ key k. (k.0, f key k.0 k.1)) keys all)

pub book_bytes : (rs : List Record) → BookRecords rs → Bytes (message rs)
book_bytes rs b = message_bytes rs (taken_encodable [] rs b)

-- the seal bytes of an image
pub seal_bytes : (rs : List Record) (code : ℕ) (seal : List ℕ) → Bytes (image rs code seal) → Bytes seal
seal_bytes rs code seal b = (bytes_right (message rs) (bytes_of (seal_field code seal)) b).1.1.1.1

module _ (M : Meaning) (laws : Lawful M) where
  -- different records: few keys give seals that differ by d
  pub seals : (rs ss : List Record) (pad_r pad_s d : ℕ) → BookRecords rs → BookRecords ss → rs ≢ ss
      → AtMost M (M.bound (max (length (message rs)) (length (message ss)))) (λ key. bit_xor (sealed M key pad_r rs) (sealed M key pad_s ss) ≡ d)
  seals rs ss pad_r pad_s d b c apart =
      at_most_weaker M _ _ (λ key. bit_xor (hash M key (message rs)) (hash M key (message ss)) ≡ bit_xor d (bit_xor pad_r pad_s))
      (λ key k e. pads_out (hash M key (message rs)) (hash M key (message ss)) pad_r pad_s d e)
      (laws.bounded (message rs) (message ss) _ (book_bytes rs b) (book_bytes ss c) (λ e. apart (message_inj rs ss e)))

  -- a key and its pad bytes
  key_is : (key pad : List ℕ) → Key M key → key_of M (key ++ pad) ≡ key
  key_is key pad k = take_at key pad M.key_len k.sized

  pad_is : (key pad : List ℕ) → Key M key → pad_of M (key ++ pad) ≡ word pad
  pad_is key pad k = ap word (drop_at key pad M.key_len k.sized)

  -- an image passes by its own records and seal, whatever the key
  passes_word : (i key pad : List ℕ) → Bytes i → Key M key → (p : Passes M (key ++ pad) i) (rs : List Record) (s : List ℕ) → BookRecords rs → length s ≡ 8 → i ≡ image rs M.code s
      → sealed M key (word pad) rs ≡ word s
  passes_word i key pad b k p rs s book eight framed =
      let same = one_book M.code i b rs p.records s p.seal book p.book eight p.eight_bytes framed p.framed in
      ap (sealed M key (word pad)) same.0
      ∙ ap₂ (λ (x : List ℕ) (w : ℕ). sealed M x w p.records) (sym (key_is key pad k)) (sym (pad_is key pad k))
      ∙ sym p.agrees ∙ ap word (sym same.1)

  -- the message of an image that passes is that of its records
  message_is : (i buffer : List ℕ) (p : Passes M buffer i) → message_of i ≡ message p.records
  message_is i buffer p = ap message_of p.framed ∙ message_of_image p.records M.code p.seal p.eight_bytes

  -- images whose records differ wherever both pass: few keys pass both, each with its own pad
  passing : (i j pad_i pad_j : List ℕ) → Bytes i → Bytes j
      → ((key : List ℕ) (p : Passes M (key ++ pad_i) i) (q : Passes M (key ++ pad_j) j) → p.records ≢ q.records)
      → AtMost M (M.bound (max (length (message_of i)) (length (message_of j)))) (λ key. Passes M (key ++ pad_i) i × Passes M (key ++ pad_j) j)
  passing i j pad_i pad_j bi bj differ [] once all = omega arith
  passing i j pad_i pad_j bi bj differ (key ∷ keys) once all =
      let p = all.0.1.0 in
      let q = all.0.1.1 in
      rw (message_is i _ p, message_is j _ q)
      (seals p.records q.records (word pad_i) (word pad_j) (bit_xor (word p.seal) (word q.seal)) p.book q.book (differ key p q) (key ∷ keys) once
      (All-weaker _ _
      (λ x h. (
        h.0,
        ap₂ bit_xor (passes_word i x pad_i bi h.0 h.1.0 p.records p.seal p.book p.eight_bytes p.framed)
            (passes_word j x pad_j bj h.0 h.1.1 q.records q.seal q.book q.eight_bytes q.framed),
      ))
      (key ∷ keys) all))

  -- two different images and one pad
  pub images : (i j pad : List ℕ) → Bytes i → Bytes j → i ≢ j
      → AtMost M (M.bound (max (length (message_of i)) (length (message_of j)))) (λ key. Passes M (key ++ pad) i × Passes M (key ++ pad) j)
  images i j pad bi bj apart = passing i j pad pad bi bj differ
    where
      differ : (key : List ℕ) (p : Passes M (key ++ pad) i) (q : Passes M (key ++ pad) j) → p.records ≢ q.records
      differ key p q e =
          let same : p.seal ≡ q.seal =
          word_injective p.seal q.seal (seal_bytes p.records M.code p.seal (subst Bytes p.framed bi)) (seal_bytes q.records M.code q.seal (subst Bytes q.framed bj))
          (p.eight_bytes ∙ sym q.eight_bytes) (p.agrees ∙ ap (sealed M (key_of M (key ++ pad)) (pad_of M (key ++ pad))) e ∙ sym q.agrees) in
          apart (p.framed ∙ ap₂ (λ rs s. image rs M.code s) e same ∙ sym q.framed)

  -- two images with different messages, each with its own pad
  pub messages : (i j pad_i pad_j : List ℕ) → Bytes i → Bytes j → message_of i ≢ message_of j
      → AtMost M (M.bound (max (length (message_of i)) (length (message_of j)))) (λ key. Passes M (key ++ pad_i) i × Passes M (key ++ pad_j) j)
  messages i j pad_i pad_j bi bj apart =
      passing i j pad_i pad_j bi bj (λ key p q e. apart (message_is i _ p ∙ ap message e ∙ sym (message_is j _ q)))
