-- The answer to an input, by the image of its text.
use Rattle.std.proofs.Common.{◌≡◌, ℕ, ◌+◌, ◌-◌, ◌<◌, ◌≤◌, ◌^◌, List, [], ◌∷◌, ◌++◌, length, take, drop, replicate, Some, Ok, Err, Option, sym, refl, ap, ap₂, ◌∙◌, append_assoc, arith, length-append}
use Rattle.std.specs.Int.{bytes_high_first}
use Rattle.std.proofs.ByRecursion.{All-append}
use Rattle.std.proofs.lemmas.List.{drop-drop, drop_at, take_at}
use Rattle.hashes.specs.Division.{division_family}
use Rattle.hashes.specs.DivisionFamily.{division_lawful}
use Rattle.hashes.specs.Evaluation.{evaluation_family}
use Rattle.hashes.specs.EvaluationFamily.{evaluation_lawful}
use Rattle.hashes.specs.Family.{Lawful, Meaning}
use Rattle.hashes.specs.KeyFault.{Answer}
use Rattle.hashes.specs.Toeplitz.{toeplitz_family}
use Rattle.hashes.specs.ToeplitzFamily.{toeplitz_lawful}
use Rattle.hashes.specs.Word.{Bytes, word}
use Rattle.register.specs.Facts.{RegisterFacts}
use Rattle.register.specs.Image.{seal_field}
use Rattle.register.specs.Records.{Record, bytes_of, message}
use Rattle.register.specs.View.{View, key_of, opening, pad_of, sealed}
use Rattle.register.specs.Writing.{filled_up}
use Rattle.line_reader.specs.AsMade.{AsMade, InputsAsMade, image_answer, longest_image}
use Rattle.line_reader.specs.Making.{Making, Sent, all_taken, made, sealed_image, sent, stopped}
use Rattle.line_reader.specs.Sending.{by_buffer, by_line}
use Rattle.line_reader.specs.SiteInput.{InputAnswer, Scheme, division_scheme, evaluation_scheme, input_answer, longest_input, scheme_by, scheme_of, seal_by, seal_by_scheme, toeplitz_scheme}
use Rattle.line_reader.specs.Texts.{lines_of}
use Rattle.line_reader.proofs.Makings.{image_length, making_refused, making_whole, opened_made}
use Rattle.line_reader.proofs.SiteSeals.{Cut, division_agrees, evaluation_agrees, seal_within, text_refused, text_sealed, toeplitz_agrees}
use Rattle.line_reader.proofs.TextsPass.{sealed_small, sent_book, word_of_bytes}

-- the last eight bytes of an image, in front of zeros
last_eight : (m z : List ℕ) (code w : ℕ)
    → take 8 (drop (length m + 4) ((m ++ bytes_of (seal_field code (bytes_high_first 8 w))) ++ z))
    ≡ bytes_high_first 8 w
last_eight m z code w =
    ap (λ (x : List ℕ). take 8 (drop (length m + 4) x))
    (append_assoc m (bytes_of (seal_field code (bytes_high_first 8 w))) z)
    ∙ ap (take 8)
    (sym (drop-drop 4 (length m) (m ++ (bytes_of (seal_field code (bytes_high_first 8 w)) ++ z))))
    ∙ ap (λ (x : List ℕ). take 8 (drop 4 x))
    (drop_at m (bytes_of (seal_field code (bytes_high_first 8 w)) ++ z) (length m) refl)

module _ (M : Meaning) (laws : Lawful M) (facts : RegisterFacts M) (S : Scheme)
    (agrees : (rest : List ℕ) → Bytes rest → seal_by_scheme (scheme_of M) rest
    ≡ seal_by_scheme S rest) (picks : scheme_by M.code ≡ Some S) where
  module _ (buffer text : List ℕ) (room : ℕ) (bb : Bytes buffer) (bt : Bytes text)
      (sized : length buffer ≡ M.key_len + 8)
      (short : length (M.code ∷ (buffer ++ text)) ≤ longest_input)
      (fits : longest_image ≤ room) where
    cut : Cut M (buffer ++ text) buffer text
    cut = record {
      long = omega (arith, sized, length-append buffer text);
      front = sym (take_at buffer text (M.key_len + 8) sized);
      back = sym (drop_at buffer text (M.key_len + 8) sized);
    }

    by_meaning : seal_by_scheme (scheme_of M) (buffer ++ text)
        ≡ input_answer (M.code ∷ (buffer ++ text))
    by_meaning =
        agrees (buffer ++ text) (All-append (λ (b : ℕ). b < 256) buffer text bb bt)
        ∙ ap (λ (o : Option Scheme). seal_by o (buffer ++ text)) (sym picks)
        ∙ seal_within (M.code ∷ (buffer ++ text)) short (Some M.code) refl

    by_image : Making → InputAnswer
    by_image m = image_answer m.0 m.1

    seal_read : (v : View M) → Ok v ≡ opening M buffer → (rs : List Record)
        → sent [] (lines_of text) 1 ≡ all_taken rs
        → word (take 8
        (drop (length (sealed_image M (key_of M buffer) (pad_of M buffer) rs) - 8)
        (filled_up room (sealed_image M (key_of M buffer) (pad_of M buffer) rs))))
        ≡ sealed M (key_of M buffer) (pad_of M buffer) rs
    seal_read v o rs s =
        let w = sealed M (key_of M buffer) (pad_of M buffer) rs in
        let i = sealed_image M (key_of M buffer) (pad_of M buffer) rs in
        let at : length i - 8 ≡ length (message rs) + 4 =
        omega (arith, image_length M (key_of M buffer) (pad_of M buffer) room rs) in
        ap (λ (n : ℕ). word (take 8 (drop n (filled_up room i)))) at
        ∙ ap word (last_eight (message rs) (replicate (room - length i) 0) M.code w)
        ∙ word_of_bytes w
        (sealed_small M facts buffer bb v o laws rs (sent_book facts (lines_of text) 1 rs s))

    taken : (v : View M) → Ok v ≡ opening M buffer → (rs : List Record) → sent [] (lines_of text) 1
        ≡ all_taken rs
        → by_image (made M buffer text room) ≡ seal_by_scheme (scheme_of M) (buffer ++ text)
    unfolding by_image
    taken v o rs s =
        let k = key_of M buffer in
        let p = pad_of M buffer in
        let long = image_length M k p room rs in
        let few = facts.book_fits rs (sent_book facts (lines_of text) 1 rs s) in
        ap by_image (opened_made M buffer text room v (all_taken rs) o s
        ∙ making_whole M k p room rs (omega (arith, long, few, fits)))
        ∙ ap₂ (λ (n w : ℕ). Ok (n, w)) long (seal_read v o rs s)
        ∙ text_sealed cut v o rs s

    by_sent : (v : View M) → Ok v ≡ opening M buffer → (s : Sent) → sent [] (lines_of text) 1 ≡ s
        → by_image (made M buffer text room) ≡ seal_by_scheme (scheme_of M) (buffer ++ text)
    unfolding by_image
    by_sent v o (all_taken rs) e = taken v o rs e
    by_sent v o (stopped n line column) e =
        ap by_image (making_refused M buffer text room n (line, column) (by_line o e))
        ∙ text_refused cut n (line, column) (by_line o e)

    by_opening : (a : Answer (View M)) → opening M buffer ≡ a → by_image (made M buffer text room)
        ≡ seal_by_scheme (scheme_of M) (buffer ++ text)
    unfolding by_image
    by_opening (Ok v) e = by_sent v (sym e) (sent [] (lines_of text) 1) refl
    by_opening (Err n) e =
        ap by_image (making_refused M buffer text room n (0, 0) (by_buffer e))
        ∙ text_refused cut n (0, 0) (by_buffer e)

  as_made : AsMade M
  unfolding by_image
  as_made buffer text room bb bt sized short fits =
      sym (by_opening buffer text room bb bt sized short fits (opening M buffer) refl
      ∙ by_meaning buffer text room bb bt sized short fits)

pub inputs_as_made : RegisterFacts division_family → RegisterFacts toeplitz_family
    → RegisterFacts evaluation_family → InputsAsMade
inputs_as_made d t e = record {
  by_division = as_made division_family division_lawful d division_scheme (division_agrees d) refl;
  by_toeplitz = as_made toeplitz_family toeplitz_lawful t toeplitz_scheme (toeplitz_agrees t) refl;
  by_evaluation =
      as_made evaluation_family evaluation_lawful e evaluation_scheme (evaluation_agrees e) refl;
}
