-- What a page of the directory is to be.
use Rattle.std.specs.Prelude.{◌≡◌, Vec, refl}
use Rattle.std.specs.declared.alloc.Global.{Global}
use Rattle.pg_directory.specs.declared.entries.Child.{Child}
use Rattle.pg_directory.specs.declared.entries.EntryAt.{EntryAt}
use Rattle.pg_directory.specs.Pages.{DirectoryPage, Leaf, Inner}
use Rattle.pg_change.specs.declared.images.DirectoryImage.{DirectoryImage}
use Rattle.pg_change.specs.declared.images.DirectoryImage.TheVariants.{Leaf as LeafImage, Inner as InnerImage}

abbrev pub image_page : DirectoryImage → DirectoryPage
image_page (LeafImage entries) = Leaf entries.items
image_page (InnerImage level children) = Inner level children.items

-- ---- computed examples: a leaf has what it names, and so has a page above the leaves
of_a_leaf : (entries : Vec EntryAt Global) → image_page (LeafImage entries) ≡ Leaf entries.items
of_a_leaf entries = refl

of_a_page_above : (children : Vec Child Global) → image_page (InnerImage 1 children) ≡ Inner 1 children.items
of_a_page_above children = refl
