use Rattle.std.proofs.Common.{rules, ◌≡◌, ◌≤◌, ◌<◌, ◌^◌, List, ℕ, length, sym, subst}
use Rattle.ix_posting.specs.Forms.{Rise}
use Rattle.ix_cursor.specs.Alone.{rising_firsts}
use Rattle.ix_cursor.proofs.LoneDocument.{positions_of_entry}
use Rattle.ix_cursor.proofs.alone.token_postings.Goals as goal

pub lone_postings-requires-clause-some : goal.lone_postings-requires-clause-some
lone_postings-requires-clause-some c =
    let same : c.of.result ≡ rising_firsts 0 c.args.entry.now.places = search rules in
    subst (λ (ps : List ℕ). 1 ≤ length ps) (sym same) (positions_of_entry c.args.entry.now c.requires).some

pub lone_postings-requires-clause-few : goal.lone_postings-requires-clause-few
lone_postings-requires-clause-few c =
    let same : c.of.result ≡ rising_firsts 0 c.args.entry.now.places = search rules in
    subst (λ (ps : List ℕ). length ps < 2 ^ 32) (sym same) (positions_of_entry c.args.entry.now c.requires).few

pub lone_postings-requires-clause-rise : goal.lone_postings-requires-clause-rise
lone_postings-requires-clause-rise c =
    let same : c.of.result ≡ rising_firsts 0 c.args.entry.now.places = search rules in
    subst (Rise 0) (sym same) (positions_of_entry c.args.entry.now c.requires).rise
