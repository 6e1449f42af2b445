use Rattle.std.proofs.Common.{◌≡◌, ◌+◌, ◌*◌, ◌%◌, ◌^◌, replicate, refl, ap, ◌∙◌, arith}
use Rattle.hashes.specs.Frobenius.{frobenius}
use Rattle.hashes.specs.Polynomial.{times_mod}
use Rattle.hashes.specs.Words.{word_pos}
use Rattle.hashes.proofs.FourthPowers.{entry_add, entry_up, word_entry_one}
use Rattle.hashes.proofs.Sums.{filled_one, filled_twice, room_for_double}
use Rattle.hashes.proofs.fourth_powers.Carries.row.Goals as goal

pub loop-k-init : goal.loop-k-init
loop-k-init c =
    let P = 2 ^ 64 + c.args.self.now.p in record {
      filled =
          filled_one (λ d. times_mod P (frobenius P 2 d) c.args.a)
          (entry_add P (word_pos 64 c.args.self.now.p) c.args.a) (replicate 16 0) refl;
      power = word_entry_one 64 c.args.self.now.p c.args.self.now.fits c.args.a (omega arith) c.ranges.a.fits;
    }

pub extend_sums-requires : goal.extend_sums-requires
extend_sums-requires c =
    let room = room_for_double c.loop-k.k 4 16 c.loop-k-test.true (omega arith) in
    omega (arith, room, c.loop-k-test.array_long)

pub loop-k-preserved : goal.loop-k-preserved
loop-k-preserved c =
    let P = 2 ^ 64 + c.args.self.now.p in
    let pos = word_pos 64 c.args.self.now.p in
    let room = room_for_double c.loop-k.k 4 16 c.loop-k-test.true (omega arith) in
    let half : 1 * 2 ^ c.loop-k.k % 2 ^ 64 ≡ 2 ^ c.loop-k.k = omega (arith, room) in
    record {
      filled =
          filled_twice (λ d. times_mod P (frobenius P 2 d) c.args.a) (entry_add P pos c.args.a) c.loop-k.k _ _ c.loop-k.row c.extend_sums.new.words
          half c.loop-k.invariant.power c.loop-k.invariant.filled c.extend_sums.ensures.below c.extend_sums.ensures.above;
      power = c.half_byte_up-power.ensures ∙ ap (times_mod P (2 ^ 4)) c.loop-k.invariant.power ∙ entry_up P pos c.args.a c.loop-k.k;
    }

pub returns : goal.returns
returns c =
    let last : c.loop-k.k ≡ 4 = omega (arith, c.loop-k-test.false, c.loop-k.auto.k-end) in
    λ d h. c.loop-k.invariant.filled d (rw last h)
