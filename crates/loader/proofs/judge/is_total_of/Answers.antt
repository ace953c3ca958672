-- `loader::judge::is_total_of` meets its contract. The total is written and compared.
use Rattle.std.proofs.Common.{sym, refl, ap, ◌∙◌, arith, length-take-le}
use Rattle.loading.specs.Shapes.{same_text}
use Rattle.loader.proofs.Judged.{same_is, total_held}
use Rattle.loader.proofs.judge.is_total_of.Goals as goal

pub slice_bounds-buffer-end : goal.slice_bounds-buffer-end
slice_bounds-buffer-end c = (total_held c.args.sum (omega arith) refl c.write_total-n.ensures).inside

pub slice_bounds-eq-end : goal.slice_bounds-eq-end
slice_bounds-eq-end c = sym (length-take-le _ _ (total_held c.args.sum (omega arith) refl c.write_total-n.ensures).inside)

pub returns : goal.returns
returns c =
    c.eq.ensures ∙ same_is c.args.line.now _ ∙ ap (same_text c.args.line.now) (total_held c.args.sum (omega arith) refl c.write_total-n.ensures).front
