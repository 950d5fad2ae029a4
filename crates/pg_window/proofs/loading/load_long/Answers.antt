use Rattle.std.proofs.Common.{◌≡◌, ap, ◌∙◌, arith}
use Rattle.pg_map.specs.Kinds.{Long, bytes_of_kind}
use Rattle.pg_directory.specs.Trees.{bytes_of_page}
use Rattle.pg_window.proofs.Chains.{long_page}
use Rattle.pg_window.proofs.Loaded.{adds_put}
use Rattle.pg_window.proofs.Reading.{kept_given}
use Rattle.pg_window.proofs.loading.load_long.Goals as goal

pub returns-clause-long : goal.returns-clause-long
returns-clause-long g c = λ top pages next used s low kind.
    let p = long_page pages c.args.number next used s.holds.are kind in
    let kept = c.in-Ok.ensures.page top pages s.holds low (omega (arith, p.0, s.holds.count, low)) in
    let page : c.page.result.now ≡ bytes_of_kind (Long next used) = kept_given c.page_behind.new.cache _ kept c.in-Some.is c.page.ensures ∙ ap bytes_of_page p.1 in
    let put = c.in-Ok-put_long.ensures.put next used p.2 page in
    (put.0, put.1, adds_put pages c.args.sheets.now.items c.put_long.new.sheets.items c.args.number next used low s.shows put.2 p.1)
