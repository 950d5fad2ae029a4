use Rattle.std.proofs.Common.{ap, ◌∙◌, List, ℕ}
use Rattle.ct_site.specs.Images.{written}
use Rattle.ct_base.specs.Zeros.{zeros}
use Rattle.pg_map.proofs.LongPages.{long_page}
use Rattle.pg_map.proofs.sheets.long_bytes.Goals as goal

pub returns : goal.returns
returns c = c.put_at-2.ensures ∙ ap (written 8 c.args.bytes.now) (c.put_at.ensures ∙ ap (λ (l : List ℕ). written 0 l (zeros 4096)) c.long_head.ensures) ∙ long_page c.args.next c.args.bytes.now c.requires
