use Rattle.std.proofs.Common.{length, arith, ap, ◌∙◌, Some, ◌∷◌, ◌++◌, [], sym, subst}
use Rattle.std.proofs.Common.{◌<◌, length-append, IfSome}
use Rattle.scope_tree.specs.declared.indexes.chains.TheConstants.{CHAINS}
use Rattle.scope_tree.specs.Names.{home}
use Rattle.scope_tree.proofs.Naming.{found_lengths, found_pushed, link_fits}
use Rattle.scope_tree.proofs.Waiting.{heap_pushed, waiting_pushed}
use Rattle.scope_tree.proofs.indexes.changes.push_row.Goals as goal

pub push-requires-clause-room : goal.push-requires-clause-room
push-requires-clause-room g c =
    omega (
      arith,
      (found_lengths _ _ _ _ c.requires.found).0,
      c.requires.found.names_fit,
      c.requires.room,
    )

pub push-requires-2-clause-room : goal.push-requires-2-clause-room
push-requires-2-clause-room g c =
    omega (
      arith,
      (found_lengths _ _ _ _ c.requires.found).1,
      c.requires.found.links_fit,
      c.requires.room,
    )

pub returns-clause-found : goal.returns-clause-found
returns-clause-found g c =
    found_pushed _ _ _ _ c.args.row _ _ _ _ c.requires.found c.requires.free
    c.push_reserved.ensures.items c.push_reserved.ensures.capacity
    (c.push.ensures ∙ ap (λ h. record c.args.names.now {
      keys =
          c.args.names.now.keys ++ Some h ∷ [];
    })
    (c.home.ensures.home ∙ ap home c.as_bytes.ensures.value))
    (c.push-2.ensures ∙ ap (λ l. record c.args.links.now {
      keys =
          c.args.links.now.keys ++ l ∷ [];
    })
    c.link_of.ensures)

pub note-requires-clause-heap : goal.note-requires-clause-heap
note-requires-clause-heap g c =
    heap_pushed c.args.scopes.now.items _ c.args.row _ c.requires.waiting.heap
    (c.deref.ensures.value ∙ c.push_reserved.ensures.items)

pub note-requires-clause-known : goal.note-requires-clause-known
note-requires-clause-known g c =
    let rows = c.args.scopes.now.items in
    omega (
      arith,
      c.len-n.ensures,
      ap length (c.deref.ensures.value ∙ c.push_reserved.ensures.items),
      length-append rows (c.args.row ∷ []),
    )

pub note-requires-clause-room : goal.note-requires-clause-room
note-requires-clause-room g c =
    omega (arith, c.requires.waiting.fits, c.requires.room, c.requires.few)

pub returns-clause-waiting : goal.returns-clause-waiting
returns-clause-waiting g c =
    waiting_pushed c.args.scopes.now.items _ _ c.args.row _ _ _ c.requires.waiting
    c.push_reserved.ensures.items c.deref.ensures.value (omega (arith, c.len-n.ensures))
    c.note.ensures

pub push-requires-2-clause-key : goal.push-requires-2-clause-key
push-requires-2-clause-key g c =
    subst (λ l. IfSome l (λ k. k < CHAINS)) (sym c.link_of.ensures)
    (link_fits c.args.row CHAINS c.requires.parent)
