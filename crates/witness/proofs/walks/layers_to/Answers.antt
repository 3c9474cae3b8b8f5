use Rattle.std.proofs.Common.{arith}
use Rattle.witness.proofs.Layering.{layer_start, layer_turn, layer_end}
use Rattle.witness.proofs.walks.layers_to.Goals as goal

pub loop-layer-init : goal.loop-layer-init
loop-layer-init c = layer_start _ _ _ c.ranges.allowed.fits _

pub loop-layer-preserved : goal.loop-layer-preserved
loop-layer-preserved c = layer_turn _ _ _ c.ranges.allowed.fits _ _ _ _ _ (omega arith) c.image.ensures c.loop-layer.invariant

pub returns : goal.returns
returns c = λ p e.
    let l = c.loop-layer in
    layer_end p _ e _ _ c.ranges.allowed.fits l.layers l.layer-index _ l.wave (omega arith) (omega arith) l.invariant
