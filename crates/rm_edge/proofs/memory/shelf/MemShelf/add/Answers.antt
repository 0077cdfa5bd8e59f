use Rattle.std.proofs.Common.{◌≡◌, ap, [], ◌∷◌, ◌++◌, rules}
use Rattle.rm_edge.specs.MemShelf.{held_of}
use Rattle.rm_edge.proofs.Files.{file_in-added, file_in-other}
use Rattle.rm_edge.proofs.memory.shelf.MemShelf.add.Goals as goal

pub returns-clause-added : goal.returns-clause-added
returns-clause-added c =
    let items : c.push.new.self.items ≡ c.self.inside.files.items ++ c.in_ok-file.file ∷ [] = search rules in
    rw (items, c.in_ok-file.ensures) (ap held_of (file_in-added c.self.inside.files.items _ (rw (← c.self.view_is) at c.requires)))

pub returns-clause-others : goal.returns-clause-others
returns-clause-others c =
    let items : c.push.new.self.items ≡ c.self.inside.files.items ++ c.in_ok-file.file ∷ [] = search rules in
    λ each other. rw (items, c.in_ok-file.ensures, ← c.self.view_is) (ap held_of (file_in-other c.self.inside.files.items _ each other))
