use Rattle.std.proofs.Common.{ℕ, ◌-◌, ◌∙◌, ap, arith}
use Rattle.std.proofs.lemmas.Result.{IfOk-weaker}
use Rattle.ct_site.specs.laws.Calls.{same_then}
use Rattle.pg_cache.specs.laws.Caches.{same_cache, stands_same}
use Rattle.pg_directory.proofs.StoreOpens.{none_open, with_root, as_many, store_found, disk_holds, no_pages_found, pages_found, named_given, named_none, count_given}
use Rattle.pg_directory.proofs.stores.open_store.Goals as goal

pub returns-in_default-clause-opened : goal.returns-in_default-clause-opened
returns-in_default-clause-opened g c = λ store st. absurd (named_none c.in-Ok.named c.args.journal.now store (c.in-Ok.ensures.top store st) c.in_default.is)

pub returns-in_default-found-clause-opened : goal.returns-in_default-found-clause-opened
returns-in_default-found-clause-opened g c = λ store st.
    none_open c.args.journal.now store st.image st.shut (c.homes.result - 3) (ap (λ (n : ℕ). n - 3) c.homes.ensures.homes)
    (no_pages_found c.in-Ok-open_pages.found st.image (c.homes.result - 3) (c.in-Ok-open_pages.ensures.opened st.image (c.read_top.ensures.same.image ∙ st.settled.told)) c.in_default-found.is)

pub open_noted-requires-clause-few : goal.open_noted-requires-clause-few
open_noted-requires-clause-few g c =
    let long = count_given c.in-Ok-open_pages.found c.in-Some-found.noted (c.homes.result - 3) c.in-Ok-open_pages.ensures.count c.in-Some-found.is in
    let most = c.homes.ensures.most in
    omega (arith, long, most)

pub open_noted-requires-clause-cache : goal.open_noted-requires-clause-cache
open_noted-requires-clause-cache g c = same_cache _ _ _ _ (same_then _ _ _ c.read_top.ensures.same c.open_pages.ensures.same) c.requires

pub returns-clause-opened : goal.returns-clause-opened
returns-clause-opened g c = λ store st.
    let count = ap (λ (n : ℕ). n - 3) c.homes.ensures.homes in
    let named = named_given c.in-Ok.named c.in-Some.top c.args.journal.now store (c.in-Ok.ensures.top store st) c.in-Some.is in
    let p = pages_found c.in-Ok-open_pages.found c.in-Some-found.noted st.image (c.homes.result - 3) (c.in-Ok-open_pages.ensures.opened st.image (c.read_top.ensures.same.image ∙ st.settled.told)) c.in-Some-found.is in
    let same = same_then _ _ _ c.read_top.ensures.same c.open_pages.ensures.same in
    IfOk-weaker c.open_noted.result _ _ (λ found is. store_found c.args.journal.now store st.image st.shut c.in-Some.top (c.homes.result - 3) p.0 named count p.1 found is)
    (c.open_noted.ensures.opened p.0
    (disk_holds _ c.args.journal.now c.in-Some.top store p.0 (stands_same _ _ c.args.journal.now store same st) (with_root c.args.journal.now store st.image st.shut c.in-Some.top (c.homes.result - 3) p.0 named count p.1)
    (as_many c.args.journal.now store st.image st.shut c.in-Some.top (c.homes.result - 3) p.0 named count p.1) p.1.are) p.2 p.3)
