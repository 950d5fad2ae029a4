use Rattle.std.specs.BTreeMap.{insert_entry}
use Rattle.std.specs.Ordering.{nat_cmp}
use Rattle.std.proofs.Common.{ℕ, List, ◌∷◌, sym, subst}
use Rattle.pg_directory.specs.Trees.{Directory}
use Rattle.pg_directory.specs.Written.{PageWrite}
use Rattle.pg_directory.specs.Pages.{DirectoryPage}
use Rattle.pg_change.specs.DirectoryImages.{images_seen, AreSameWrites}
use Rattle.pg_change.specs.ImagePages.{image_page}
use Rattle.pg_change.proofs.ImageSteps.{seen_more}
use Rattle.pg_change.proofs.images.DirectoryImages.put.Goals as goal

pub returns-clause-ok : goal.returns-clause-ok
returns-clause-ok c =
    let old = c.self.inside.pages.entries in
    let new : PageWrite = (c.args.number, Directory (image_page c.args.image)) in
    subst (λ (ws : List PageWrite). AreSameWrites (images_seen c.insert.new.self.entries) (new ∷ ws)) c.self.view_is
    (subst (λ (es : List (ℕ × DirectoryPage)). AreSameWrites (images_seen es) (new ∷ images_seen old)) (sym c.in_ok-insert.ensures.entries)
    (subst (λ (d : DirectoryPage). AreSameWrites (images_seen (insert_entry nat_cmp old c.args.number c.in_ok-page.page)) ((c.args.number, Directory d) ∷ images_seen old)) c.in_ok-page.ensures (seen_more old c.args.number c.in_ok-page.page)))
