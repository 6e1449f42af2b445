use Rattle.std.proofs.Common.{◌≡◌, [], take, fold}
use Rattle.hashes.specs.Evaluation.{evaluation_family}
use Rattle.hashes.specs.Family.{absorbed}
use Rattle.hashes.proofs.evaluation.Evaluation.take_words.Given as goal

-- the words so far have been taken in
abbrev pub invariant-loop-bytes : goal.invariant-loop-bytes
invariant-loop-bytes l = record {
  moved : l.self ≡ fold (absorbed evaluation_family) l.initial.self (take l.bytes-index l.words);
  whole : l.self.pending ≡ [];
}
