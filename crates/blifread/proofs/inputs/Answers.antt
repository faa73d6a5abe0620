-- `blifread::inputs` meets its contract. Assumes nothing.
use Rattle.network.proofs.TestLaws.{handed-on}
use Rattle.blifread.proofs.Phases.{inputs-refused, inputs-done}
use Rattle.blifread.proofs.inputs.Goals as goal

pub returns-in_err-x : goal.returns-in_err-x
returns-in_err-x c =
    handed-on c.from_residual.ensures.1 (inputs-refused c.args.text.now c.args.at c.names_line.result c.names_line.ensures _ c.in_err-x.was)

pub returns : goal.returns
returns c =
    inputs-done c.args.text.now c.args.at c.names_line.result c.names_line.ensures c.outputs.result _ c.in_ok-x.was c.outputs.ensures

pub outputs-requires : goal.outputs-requires
outputs-requires c = let g = c.names_line.ensures.given _ c.in_ok-x.was in (g.place, g.few, g.held.inside)
