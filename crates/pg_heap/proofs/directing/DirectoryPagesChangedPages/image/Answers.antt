use Rattle.std.proofs.Common.{◌≡◌, ◌-◌, ◌^◌, ℕ, List, length, get_or, sym, ap, ◌∙◌, arith}
use Rattle.pg_directory.specs.declared.building.InnerPage.{InnerPage}
use Rattle.pg_directory.specs.declared.entries.Child.{Child}
use Rattle.pg_directory.specs.declared.entries.EntryAt.{EntryAt}
use Rattle.pg_directory.specs.declared.leaves.LeafPage.{LeafPage}
use Rattle.pg_directory.specs.Pages.{Leaf, Inner, directory_bytes}
use Rattle.pg_heap.specs.Directing.{directory_batch}
use Rattle.pg_heap.proofs.DirectCommits.{image_of_leaf, image_of_above, count_batch, length_at, leaf_room, inner_room}
use Rattle.pg_heap.proofs.directing.DirectoryPagesChangedPages.image.Goals as goal

pub leaf_page-requires : goal.leaf_page-requires
leaf_page-requires c =
    let s = c.args.self.now in
    let i = c.args.index - 1 in
    let at = image_of_leaf s.homes s.made.now c.args.index i c.index.result.now (omega (arith, c.if-index-eq0.false)) (omega (arith, c.if-at-count.true, c.len-count.ensures)) in
    let same : c.deref.result.now ≡ (get_or s.made.now.leaves.items i c.index.result.now).entries.items = c.deref.ensures.value ∙ ap (λ (p : LeafPage). p.entries.items) c.index.ensures in
    let long = length_at 2 (2 ^ 32) (directory_batch s.homes s.made.now) c.args.index s.between c.requires in
    leaf_room c.deref.result.now (ap (λ (es : List EntryAt). length (directory_bytes (Leaf es))) same ∙ ap (λ (l : List ℕ). length l) (sym at) ∙ long)

pub returns-then-at-count : goal.returns-then-at-count
returns-then-at-count c =
    let s = c.args.self.now in
    let i = c.args.index - 1 in
    let at = image_of_leaf s.homes s.made.now c.args.index i c.index.result.now (omega (arith, c.if-index-eq0.false)) (omega (arith, c.if-at-count.true, c.len-count.ensures)) in
    let same : c.deref.result.now ≡ (get_or s.made.now.leaves.items i c.index.result.now).entries.items = c.deref.ensures.value ∙ ap (λ (p : LeafPage). p.entries.items) c.index.ensures in
    c.leaf_page.ensures ∙ ap (λ (es : List EntryAt). directory_bytes (Leaf es)) same ∙ sym at

pub inner_page-requires : goal.inner_page-requires
inner_page-requires c =
    let s = c.args.self.now in
    let i = (c.args.index - 1) - c.len-count.result in
    let all = count_batch s.homes s.made.now in
    let at = image_of_above s.homes s.made.now c.args.index i c.index-page.result.now (omega (arith, c.if-index-eq0.false, c.if-at-count.false, c.len-count.ensures)) (omega (arith, c.if-index-eq0.false, c.if-at-count.false, c.len-count.ensures, all, c.requires)) in
    let page = c.index-page.ensures in
    let same : c.deref-2.result.now ≡ (get_or s.made.now.upper.items i c.index-page.result.now).children.items = c.deref-2.ensures.value ∙ ap (λ (p : InnerPage). p.children.items) page in
    let long = length_at 2 (2 ^ 32) (directory_batch s.homes s.made.now) c.args.index s.between c.requires in
    inner_room (get_or s.made.now.upper.items i c.index-page.result.now).level c.deref-2.result.now
    (ap (λ (cs : List Child). length (directory_bytes (Inner (get_or s.made.now.upper.items i c.index-page.result.now).level cs))) same ∙ ap (λ (l : List ℕ). length l) (sym at) ∙ long)

pub returns : goal.returns
returns c =
    let s = c.args.self.now in
    let i = (c.args.index - 1) - c.len-count.result in
    let all = count_batch s.homes s.made.now in
    let at = image_of_above s.homes s.made.now c.args.index i c.index-page.result.now (omega (arith, c.if-index-eq0.false, c.if-at-count.false, c.len-count.ensures)) (omega (arith, c.if-index-eq0.false, c.if-at-count.false, c.len-count.ensures, all, c.requires)) in
    let page = c.index-page.ensures in
    c.inner_page.ensures ∙ ap (λ (cs : List Child). directory_bytes (Inner c.index-page.result.now.level cs)) c.deref-2.ensures.value
    ∙ ap (λ (p : InnerPage). directory_bytes (Inner p.level p.children.items)) page ∙ sym at
