mod TypedParts
