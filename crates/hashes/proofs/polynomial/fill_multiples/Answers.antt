use Rattle.std.proofs.Common.{◌≡◌, ◌+◌, ◌*◌, ◌%◌, ◌^◌, ◌<◌, ◌∙◌, length, length-set, pow_pos, set, arith}
use Rattle.std.proofs.lemmas.List.{get_or-set_same}
use Rattle.hashes.specs.Polynomial.{times_mod}
use Rattle.hashes.specs.Words.{word_pos}
use Rattle.hashes.proofs.Multiples.{multiple_add, multiple_one, power_doubled}
use Rattle.hashes.proofs.Sums.{filled_one, filled_twice, room_for_double, whole_power}
use Rattle.hashes.proofs.polynomial.fill_multiples.Goals as goal

pub loop-k-init : goal.loop-k-init
loop-k-init g c =
    let words = c.args.words.now in
    let some : 0 < length words =
    omega (arith, c.told-words, pow_pos c.ilog2-k-end.result, c.ilog2-k-end.ensures.power_le) in
    record {
      len = length-set words 0 0 ∙ c.told-words;
      filled =
          filled_one (λ t. times_mod (2 ^ 64 + c.args.w) t c.args.a)
          (multiple_add (2 ^ 64 + c.args.w) (word_pos 64 c.args.w) c.args.a)
          (set words 0 0) (get_or-set_same words 0 0 0 some);
      power = multiple_one 64 c.args.w c.args.a c.ranges.w.fits c.ranges.a.fits;
    }

pub extend_sums-requires : goal.extend_sums-requires
extend_sums-requires g c =
    let room = room_for_double c.loop-k.k c.ilog2-k-end.result g.row.N c.loop-k-test.true c.ilog2-k-end.ensures.power_le in
    omega (arith, room, g.N.fits.fits, c.loop-k.invariant.len)

pub loop-k-preserved : goal.loop-k-preserved
loop-k-preserved g c =
    let room = room_for_double c.loop-k.k c.ilog2-k-end.result g.row.N c.loop-k-test.true c.ilog2-k-end.ensures.power_le in
    let half : 1 * 2 ^ c.loop-k.k % 2 ^ 64 ≡ 2 ^ c.loop-k.k = omega (arith, room, g.N.fits.fits) in
    record {
      len = c.extend_sums.ensures.len ∙ c.loop-k.invariant.len;
      filled =
          filled_twice (λ t. times_mod (2 ^ 64 + c.args.w) t c.args.a) (multiple_add (2 ^ 64 + c.args.w) (word_pos 64 c.args.w) c.args.a)
          c.loop-k.k _ _ c.loop-k.words c.extend_sums.new.words
          half c.loop-k.invariant.power c.loop-k.invariant.filled c.extend_sums.ensures.below c.extend_sums.ensures.above;
      power = c.double-power.ensures ∙ power_doubled 63 c.args.w c.args.a c.loop-k.power c.loop-k.k c.ranges.w.fits c.loop-k.invariant.power;
    }

pub returns : goal.returns
returns g c =
    let (n, e) = c.requires in
    let whole : 2 ^ c.ilog2-k-end.result ≡ g.row.N = whole_power n c.ilog2-k-end.result g.row.N e c.ilog2-k-end.ensures.power_le c.ilog2-k-end.ensures.next_power_gt in
    let last : c.loop-k.k ≡ c.ilog2-k-end.result = omega (arith, c.loop-k-test.false, c.loop-k.auto.k-end) in
    λ t h. c.loop-k.invariant.filled t (rw last (omega (arith, h, whole)))
