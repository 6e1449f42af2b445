-- The check passes an image exactly when some text makes it.
use Rattle.std.proofs.Common.{◌≡◌, ℕ, ◌+◌, ◌^◌, ◌<◌, ◌≤◌, ◌↔◌, List, [], ◌∷◌, ◌++◌, map, length, drop, Ok, Option, sym, refl, ap, ◌∙◌, subst, append_assoc, append-nil, arith, length-drop, length-take, Err}
use Rattle.std.specs.Int.{bytes_high_first}
use lib.Bits.{xor_lt}
use Rattle.std.proofs.ByRecursion.{All-take, All-drop}
use Rattle.std.proofs.lemmas.List.{drop-drop, drop_at}
use Rattle.hashes.specs.Family.{Meaning, Lawful, Key, hash}
use Rattle.hashes.specs.KeyFault.{Answer}
use Rattle.hashes.specs.Word.{Bytes, word}
use Rattle.hashes.specs.Bytes.{word_64, word_injective}
use Rattle.register.specs.declared.fault.RecordFault.{RecordFault}
use Rattle.register.specs.Book.{BookRecords, TakenAfter}
use Rattle.register.specs.Check.{Passes, checked, says}
use Rattle.register.specs.Facts.{RegisterFacts}
use Rattle.register.specs.Image.{image, seal_field}
use Rattle.register.specs.Records.{Record, bytes_of, message}
use Rattle.register.specs.Run.{Input, a_record, no_record, unread, Reply, Step, takes, refuses, skips, rejects, step, step_by}
use Rattle.register.specs.View.{View, key_of, opening, pad_of, sealed}
use Rattle.register.specs.Writing.{filled_up}
use Rattle.line_reader.specs.Calls.{line_input}
use Rattle.line_reader.specs.Making.{Making, Sent, all_taken, stopped, made, made_by, making, sealed_image, sent, unless_refused, TextsPass}
use Rattle.line_reader.specs.Texts.{line_of, lines_of, text_of}
use Rattle.line_reader.proofs.Makings.{making_is, making_whole, not_made, opened_made}
use Rattle.line_reader.proofs.Written.{line_reads, text_bytes, text_lines}

-- ---- a word and its eight bytes

word_as_bytes : (w : ℕ) → Bytes (bytes_high_first 8 w)
word_as_bytes w = (omega arith, (omega arith, (omega arith, (omega arith, (omega arith, (omega arith, (omega arith, (omega arith, tt))))))))

pub word_of_bytes : (w : ℕ) → w < 2 ^ 64 → word (bytes_high_first 8 w) ≡ w
word_of_bytes w h = omega arith

-- ---- the records of lines that are all taken are a book's

all_same : (rs ss : List Record) → all_taken rs ≡ all_taken ss → rs ≡ ss
all_same rs ss e = cc

not_all : {P : Type 0} (n line column : ℕ) (rs : List Record) → stopped n line column ≡ all_taken rs → P
not_all n line column rs e = let z : ◌≡◌ {A = ℕ} 0 1 = cc in absurd (omega arith)

-- records that a book takes after those before, and no others
Adds : List Record → List Record → Type 0
Adds before rs = (more : List Record) × (rs ≡ before ++ more) × TakenAfter before more

step_takes : (before rs between : List Record) (n : ℕ) (input : Input) (a : Reply) (rest : Sent) → Step before input a between
    → (rest ≡ all_taken rs → Adds between rs) → unless_refused a n rest ≡ all_taken rs → Adds before rs
unfolding Adds
step_takes before rs between n (a_record r) a rest (takes h) more q = let m = more q in (r ∷ m.0, m.1 ∙ append_assoc before (r ∷ []) m.0, (h, m.2))
step_takes before rs between n (a_record r) a rest (refuses h) more q = not_all _ _ _ rs q
step_takes before rs between n no_record a rest skips more q = more q
step_takes before rs between n (unread k c) a rest rejects more q = not_all _ _ _ rs q

sent_takes : {M : Meaning} → RegisterFacts M
    → (before : List Record) (lines : List (List ℕ)) (n : ℕ) (rs : List Record)
    → sent before lines n ≡ all_taken rs → Adds before rs
unfolding Adds
sent_takes facts before [] n rs e = ([], sym (all_same before rs e) ∙ sym (append-nil before), tt)
sent_takes facts before (line ∷ lines) n rs e =
    step_takes before rs _ n (line_input line) _ _ (facts.steps_agree before (line_input line))
    (sent_takes facts (step before (line_input line)).1 lines (n + 1) rs) e

pub sent_book : {M : Meaning} → RegisterFacts M
    → (lines : List (List ℕ)) (n : ℕ) (rs : List Record) → sent [] lines n ≡ all_taken rs
    → BookRecords rs
unfolding Adds
sent_book facts lines n rs e = let m =
    sent_takes facts [] lines n rs e in subst (TakenAfter []) (sym m.1) m.2

-- ---- the lines that spell a book's records are all taken

sent_by : (before : List Record) (lines : List (List ℕ)) (n : ℕ) → Reply × List Record → Sent
sent_by before lines n s = unless_refused s.0 n (sent s.1 lines (n + 1))

text_sends : {M : Meaning} → RegisterFacts M → (before rs : List Record) (n : ℕ)
    → TakenAfter before rs → sent before (map line_of rs) n ≡ all_taken (before ++ rs)
unfolding sent_by
text_sends facts before [] n h = ap all_taken (sym (append-nil before))
text_sends facts before (r ∷ rs) n h =
    ap (λ (i : Input). sent_by before (map line_of rs) n (step before i))
    (line_reads facts before r h.0)
    ∙ ap (λ (o : Option RecordFault). sent_by before (map line_of rs) n (step_by before r o))
    ((facts.none_agrees before r).1 h.0)
    ∙ text_sends facts (before ++ (r ∷ [])) rs (n + 1) h.1
    ∙ ap all_taken (append_assoc before (r ∷ []) rs)

-- ---- a buffer that opens holds a key and a pad

-- the seal bytes of an image
seal_bytes : (rs : List Record) (code : ℕ) (seal : List ℕ) → Bytes (image rs code seal) → Bytes seal
seal_bytes rs code seal b =
    subst Bytes whole
    (All-drop (λ (b : ℕ). b < 256) (length (message rs) + 4) (image rs code seal) b)
  where
    whole : drop (length (message rs) + 4) (image rs code seal) ≡ seal
    whole = sym (drop-drop 4 (length (message rs)) (image rs code seal))
        ∙ ap (drop 4)
        (drop_at (message rs) (bytes_of (seal_field code seal)) (length (message rs)) refl)

module _ (M : Meaning) (facts : RegisterFacts M) (buffer : List ℕ) (bs : Bytes buffer) (v : View M)
    (opens : Ok v ≡ opening M buffer) where
  opened_key : Key M (key_of M buffer)
  opened_key = record {
    bytes = All-take (λ (b : ℕ). b < 256) M.key_len buffer bs;
    sized = simp length-take (omega (arith, (facts.opens_key buffer v opens).0));
    admitted = (facts.opens_key buffer v opens).1;
  }

  pad_small : pad_of M buffer < 2 ^ 64
  pad_small =
      word_64 (drop M.key_len buffer) (All-drop (λ (b : ℕ). b < 256) M.key_len buffer bs)
      (simp length-drop (omega (arith, (facts.opens_key buffer v opens).0)))

  -- the seal of a book's records is a word
  pub sealed_small : Lawful M → (rs : List Record) → BookRecords rs
      → sealed M (key_of M buffer) (pad_of M buffer) rs < 2 ^ 64
  sealed_small laws rs b =
      xor_lt 64 (hash M (key_of M buffer) (message rs)) (pad_of M buffer)
      (laws.words (key_of M buffer) (message rs) opened_key (facts.book_bytes rs b)) pad_small

-- ---- the two ways

module _ (M : Meaning) (laws : Lawful M) (facts : RegisterFacts M) (buffer bytes : List ℕ)
    (room : ℕ) (bs : Bytes buffer) (bi : Bytes bytes) (fits : length bytes ≤ room) where
  own_image : List Record → List ℕ
  own_image rs = sealed_image M (key_of M buffer) (pad_of M buffer) rs

  Makes : List ℕ → List ℕ → Type 0
  Makes text x = made M buffer text room ≡ (Ok (length x), filled_up room x)

  passes_text : Passes M buffer bytes → (text : List ℕ) × Bytes text × Makes text bytes
  unfolding own_image Makes
  passes_text p = (
    text_of p.records,
    text_bytes facts [] p.records p.book,
    subst (Makes (text_of p.records)) (sym whole) makes,
  )
    where
      seal_is : p.seal ≡ bytes_high_first 8 (sealed M (key_of M buffer) (pad_of M buffer) p.records)
      seal_is =
          word_injective p.seal (bytes_high_first 8 (sealed M (key_of M buffer) (pad_of M buffer) p.records)) (seal_bytes p.records M.code p.seal (subst Bytes p.framed bi)) (word_as_bytes _) p.eight_bytes
          (p.agrees
          ∙ sym (word_of_bytes _
          (sealed_small M facts buffer bs _ (sym p.opens) laws p.records p.book)))

      whole : bytes ≡ own_image p.records
      whole = p.framed ∙ ap (image p.records M.code) seal_is

      makes : Makes (text_of p.records) (own_image p.records)
      makes =
          opened_made M buffer (text_of p.records) room _ (all_taken p.records) (sym p.opens)
          (ap (λ (ls : List (List ℕ)). sent [] ls 1) (text_lines facts [] p.records p.book)
          ∙ text_sends facts [] p.records 1 p.book)
          ∙ making_whole M (key_of M buffer) (pad_of M buffer) room p.records
          (subst (λ (x : List ℕ). length x ≤ room) whole fits)

  sent_passes : (text : List ℕ) (v : View M) → opening M buffer ≡ Ok v → (s : Sent) → sent [] (lines_of text) 1 ≡ s
      → making M (key_of M buffer) (pad_of M buffer) room s
      ≡ (Ok (length bytes), filled_up room bytes) → Passes M buffer bytes
  sent_passes text v o (stopped n line column) s e = not_made _ _ (ap (λ (m : Making). m.0) e)
  sent_passes text v o (all_taken rs) s e =
      let b = sent_book facts (lines_of text) 1 rs s in
      record {
        opens = o ∙ ap Ok (facts.opens_new buffer v (sym o));
        records = rs;
        book = b;
        seal = bytes_high_first 8 (sealed M (key_of M buffer) (pad_of M buffer) rs);
        eight_bytes = refl;
        framed = making_is M (key_of M buffer) (pad_of M buffer) room rs bytes e;
        agrees = word_of_bytes _ (sealed_small M facts buffer bs v (sym o) laws rs b);
      }

  text_passes : (text : List ℕ) (a : Answer (View M)) → opening M buffer ≡ a
      → made_by M buffer text room a ≡ (Ok (length bytes), filled_up room bytes)
      → Passes M buffer bytes
  text_passes text (Ok v) o e = sent_passes text v o (sent [] (lines_of text) 1) refl e
  text_passes text (Err n) o e = not_made _ _ (ap (λ (m : Making). m.0) e)

  passes_iff : (checked M buffer bytes ≡ says 1)
      ↔ ((text : List ℕ) × Bytes text
      × (made M buffer text room ≡ (Ok (length bytes), filled_up room bytes)))
  unfolding Makes
  passes_iff = (
    λ c. passes_text ((facts.passes_agree buffer bytes bi).0 c),
    λ t. (facts.passes_agree buffer bytes bi).1 (text_passes t.0 (opening M buffer) refl t.2),
  )

pub texts_pass : (M : Meaning) → Lawful M → RegisterFacts M → TextsPass M
texts_pass M laws facts buffer bytes room bs bi fits =
    passes_iff M laws facts buffer bytes room bs bi fits
