-- `join::fits` meets its contract: the one question for the masked columns answers whether the shares fit.
-- Assumes nothing.
use Rattle.std.proofs.Common.{◌*◌, ◌∙◌, arith, replicate, length-take-le, mul-le-mul_right}
use Rattle.join.proofs.Columns.{fits_says}
use Rattle.join.proofs.fits.Goals as goal

pub returns : goal.returns
returns c =
    let s = c.args.scheme.shape in
    let room = mul-le-mul_right s.d c.args.scheme.valid.e_high in
    let wide = length-take-le (s.e * s.d) (replicate 384 0) (omega (arith, room)) in
    fits_says _ _ _ _ _ _ _ _ _ (c.turn.ensures.same ∙ wide) c.requires c.turn.ensures.turned c.mask.ensures c.mask-2.ensures
    _ _ c.find.ensures.answer
