-- The identifiers of the extensions and the magic: 16 bytes each, and an identifier names its extension. Assumes nothing.
use Rattle.std.specs.Prelude.{Some, None}
use mathlib.Core.Path.{◌≡◌, refl}
use mathlib.Core.Bool.{true}
use mathlib.Core.List.{[]}
use lib.ListN.{length}
use Rattle.kinds.specs.Magic.{same_bytes, magic}
use Rattle.extensions.specs.Extensions.{extension_row, id_at, all, find_in, find}
use Rattle.extensions.specs.declared.Extension.{Extension}
use Rattle.extensions.proofs.Each.{each, tested}
use Rattle.ids.specs.steps.Table.{Sixteen}
use Rattle.ids.proofs.ByHalves.{is_id, sixteen}

pub id_passes : (e : Extension) → is_id (id_at e) ≡ true
unfolding id_at extension_row all
id_passes = tested (λ e. is_id (id_at e)) refl

pub id_sixteen : (e : Extension) → Sixteen (id_at e)
id_sixteen e = sixteen (id_at e) (id_passes e)

pub id_length : (e : Extension) → length (id_at e) ≡ 16
id_length e = (id_sixteen e).size

pub magic_sixteen : Sixteen magic
unfolding magic
magic_sixteen = sixteen magic refl

pub id_found : (e : Extension) → find (id_at e) ≡ Some e
unfolding find find_in same_bytes id_at extension_row all
id_found =
    each (λ e. find (id_at e) ≡ Some e)
    (refl, (refl, (refl, (refl, (refl, (refl, (refl, (refl, (refl, (refl, (refl, (refl, (refl, (refl, (refl, (refl, (refl, (refl, (refl, (refl, tt))))))))))))))))))))

pub none_found : find [] ≡ None
unfolding find find_in same_bytes id_at extension_row all
none_found = refl
