use Rattle.std.proofs.Common.{List, length, sym, ap, ◌∙◌, arith}
use Rattle.std.proofs.lemmas.Bool.{eqb-true}
use Rattle.pg_journal.specs.Pages.{Numbered}
use Rattle.pg_cache.proofs.Mirroring.{found_page, found_cache, placed, failed_cache, read_cache, page_read}
use Rattle.pg_cache.proofs.caches.PageCache.seek.Goals as goal

pub returns-then-has-clause-page : goal.returns-then-has-clause-page
returns-then-has-clause-page g c = λ pages st.
    found_page _ _ c.args.number _ _ _ pages (placed _ _ _ _ _ c.requires.cache c.place_for-at.ensures.fewer c.self.view_is) (let count = ap (λ (l : List Numbered). length l) c.self.view_is in omega (arith, count, c.place_for-at.ensures.within)) c.index_mut-frame.ensures.value
    (eqb-true _ _ (sym c.has.ensures ∙ c.if-has.true)) c.requires.least st

pub returns-then-has-clause-cache : goal.returns-then-has-clause-cache
returns-then-has-clause-cache g c = found_cache _ _ _ _ _ (placed _ _ _ _ _ c.requires.cache c.place_for-at.ensures.fewer c.self.view_is) (let count = ap (λ (l : List Numbered). length l) c.self.view_is in omega (arith, count, c.place_for-at.ensures.within)) c.index_mut-frame.ensures.value

pub returns-in_err-load-clause-cache : goal.returns-in_err-load-clause-cache
returns-in_err-load-clause-cache g c = failed_cache _ _ _ _ _ _ (placed _ _ _ _ _ c.requires.cache c.place_for-at.ensures.fewer c.self.view_is) c.load.ensures.same c.in_err-load.ensures.none

pub returns-clause-page : goal.returns-clause-page
returns-clause-page g c = λ pages st. page_read _ _ c.args.number c.place_for-at.result c.self.inside.frames.items c.load.new.self pages (let count = ap (λ (l : List Numbered). length l) c.self.view_is in omega (arith, count, c.place_for-at.ensures.within)) c.in_ok-load.ensures.bytes c.requires.least c.requires.less st

pub returns-clause-cache : goal.returns-clause-cache
returns-clause-cache g c =
    read_cache _ _ _ c.args.number _ _ _ (placed _ _ _ _ _ c.requires.cache c.place_for-at.ensures.fewer c.self.view_is) c.load.ensures.same c.requires.least c.requires.less c.in_ok-load.ensures.number c.in_ok-load.ensures.bytes
